-- A streamed listing comes to its end: once the input has ended, a turn with room for a line ends the listing or
-- takes a byte at least, so that one turn more than there are bytes is enough. Carried by the places of what is read,
-- and by a night that the gate lets pass staying so. Assumes nothing.
use Rattle.std.proofs.Common.{◌≡◌, ℕ, zero, suc, ◌+◌, ◌/◌, ◌<◌, Bool, true, not, ◌&&◌, eqb, List, [], ◌∷◌, ◌++◌, length, drop, refl, ap, ◌∙◌, arith, length-append, length-drop}
use Rattle.benchlog.specs.declared.Fault.TheVariants.{Ends}
use Rattle.benchlog.specs.declared.Reading.{Reading}
use Rattle.benchlog.specs.declared.Refused as refusal
use Rattle.std.specs.Prelude.{Result, Ok, Err}
use Rattle.benchlog.specs.Entries.{entry_at}
use Rattle.benchlog.specs.Faults.{fault_number}
use Rattle.benchlog.proofs.Places.{picked, ReadingPlace, entry_place}
use Rattle.std.specs.Prelude.{Ok}
use Rattle.meb.specs.Ring.{Memory}
use Rattle.v830.specs.Calls.{gate_of}
use Rattle.night.specs.declared.Night.{Night}
use Rattle.night.specs.declared.Next.{Next}
use Rattle.night.specs.declared.Next.TheVariants.{Lines, Bytes, Nothing, Faulted, Refused}
use Rattle.night.specs.Lines.{Line, onward, stepped}
use Rattle.night.specs.Runs.{Run, on_reading, run_of, run_for}
use Rattle.night.specs.Streams.{Turn, Streamed, turned, streamed, all_bytes, Asking}
use Rattle.night.proofs.Sound.{passed}
use Rattle.night.proofs.Streamed.{run_keeps}

-- so, where a run is not at its end
abbrev UnlessOver : Next → Type 0 → Type 0
UnlessOver Lines P = P
UnlessOver Bytes P = P
UnlessOver Nothing P = Unit {0}
UnlessOver (Faulted number) P = Unit {0}
UnlessOver (Refused why) P = ⊥

-- a run says what comes next
abbrev NotRefused : Next → Type 0
NotRefused x = UnlessOver x (Unit {0})

always : (x : Next) (P : Type 0) → NotRefused x → P → UnlessOver x P
always Lines P r p = p
always Bytes P r p = p
always Nothing P r p = tt
always (Faulted number) P r p = tt
always (Refused why) P r p = r

reading_next : (last : Bool) (bytes : List ℕ) (n : Night) (memory : Memory) (f : Night → Memory → List ℕ → Run)
    → ((n₁ : Night) (m₁ : Memory) (b : List ℕ) → NotRefused (f n₁ m₁ b).next) → (x : Result Reading refusal.Refused) → NotRefused (on_reading last bytes n memory x f).next
reading_next last bytes n memory f h (Ok q) = h (onward n memory q.entry q.next) (stepped n memory q.entry).memory (drop q.next bytes)
reading_next last bytes n memory f h (Err q) =
    let P : Run → Type 0 = λ r. NotRefused r.next in
    picked P (not last && eqb (fault_number q.fault) (fault_number Ends)) (λ t. tt) (picked P (eqb (length bytes) 0) (λ t. tt) tt)

run_next : (most : ℕ) (last : Bool) (bytes : List ℕ) (n : Night) (memory : Memory) → NotRefused (run_of most last bytes n memory).next
unfolding run_of
run_next zero last bytes n memory = tt
run_next (suc most) last bytes n memory =
    reading_next last bytes n memory (λ n₁ m₁ b. run_of most last b n₁ m₁) (λ n₁ m₁ b. run_next most last b n₁ m₁) (entry_at bytes 0)

-- ---- a run of the last bytes that may have a line is at its end, or leaves fewer bytes
abbrev Takes : List ℕ → Run → Type 0
Takes bytes r = UnlessOver r.next (length (drop r.used bytes) < length bytes)

reading_takes : (bytes : List ℕ) (n : Night) (memory : Memory) (f : Night → Memory → List ℕ → Run)
    → ((n₁ : Night) (m₁ : Memory) (b : List ℕ) → NotRefused (f n₁ m₁ b).next) → (x : Result Reading refusal.Refused) → ReadingPlace bytes 0 x
    → Takes bytes (on_reading true bytes n memory x f)
reading_takes bytes n memory f h (Ok q) b =
    let r : Run = f (onward n memory q.entry q.next) (stepped n memory q.entry).memory (drop q.next bytes) in
    always r.next (length (drop (q.next + r.used) bytes) < length bytes) (h (onward n memory q.entry q.next) (stepped n memory q.entry).memory (drop q.next bytes))
    (omega (arith, length-drop (q.next + r.used) bytes))
reading_takes bytes n memory f h (Err q) b = picked (Takes bytes) (eqb (length bytes) 0) (λ z. tt) tt

run_takes : (most : ℕ) (last : Bool) (bytes : List ℕ) (n : Night) (memory : Memory) → last ≡ true → 0 < most → Takes bytes (run_of most last bytes n memory)
unfolding run_of
run_takes zero last bytes n memory e h = absurd (omega arith)
run_takes (suc most) last bytes n memory e h =
    rw e (reading_takes bytes n memory (λ n₁ m₁ b. run_of most true b n₁ m₁) (λ n₁ m₁ b. run_next most true b n₁ m₁) (entry_at bytes 0) (entry_place bytes 0))

-- ---- turns
-- what a run and the turns behind it show
abbrev shown_by : Run → List ℕ → List Turn → Streamed
shown_by r bytes ts = turned r.next r.lines (streamed r.night r.memory (drop r.used bytes) ts)

-- the listing is over with a turn, or with those behind it
turned_over : (x : Next) (ls : List Line) (rest : Streamed) (P : Type 0) → UnlessOver x P → (P → rest.over ≡ true) → (turned x ls rest).over ≡ true
turned_over Lines ls rest P p h = h p
turned_over Bytes ls rest P p h = h p
turned_over Nothing ls rest P p h = refl
turned_over (Faulted number) ls rest P p h = refl
turned_over (Refused why) ls rest P p h = absurd p

drained : (ts : List Turn) (n : Night) (memory : Memory) (held : List ℕ) → gate_of n.v830 memory ≡ Ok 0 → Asking ts
    → length (held ++ all_bytes ts) < length ts → (streamed n memory held ts).over ≡ true
unfolding streamed all_bytes
drained [] n memory held e a l = absurd (omega arith)
drained (t ∷ ts) n memory held e a l =
    let bytes : List ℕ = held ++ t.bytes in
    let r : Run = run_for t.out t.last bytes n memory in
    let left : List ℕ = drop r.used bytes in
    ap (λ (x : Run). (shown_by x bytes ts).over) (passed t.out t.last bytes n memory e)
    ∙ turned_over r.next r.lines (streamed r.night r.memory left ts) (length left < length bytes)
    (run_takes (length t.out / 63) t.last bytes n memory a.0 (omega (arith, a.1)))
    (λ f. drained ts r.night r.memory left (run_keeps (length t.out / 63) t.last bytes n memory e) a.2
    (omega (arith, length-append left (all_bytes ts), length-append held (t.bytes ++ all_bytes ts), length-append t.bytes (all_bytes ts), length-append held t.bytes)))

-- ---- the theorem: whatever the turns before the input's end were
pub comes_to_its_end : (us ts : List Turn) (n : Night) (memory : Memory) (held : List ℕ) → gate_of n.v830 memory ≡ Ok 0 → Asking ts
    → length (held ++ all_bytes (us ++ ts)) < length ts → (streamed n memory held (us ++ ts)).over ≡ true
unfolding streamed all_bytes
comes_to_its_end [] ts n memory held e a l = drained ts n memory held e a l
comes_to_its_end (u ∷ us) ts n memory held e a l =
    let bytes : List ℕ = held ++ u.bytes in
    let most : ℕ = length u.out / 63 in
    let r : Run = run_for u.out u.last bytes n memory in
    let left : List ℕ = drop r.used bytes in
    let behind : List ℕ = all_bytes (us ++ ts) in
    ap (λ (x : Run). (shown_by x bytes (us ++ ts)).over) (passed u.out u.last bytes n memory e)
    ∙ turned_over r.next r.lines (streamed r.night r.memory left (us ++ ts)) (Unit {0}) (run_next most u.last bytes n memory)
    (λ p. comes_to_its_end us ts r.night r.memory left (run_keeps most u.last bytes n memory e) a
    (omega (
      arith,
      length-drop r.used bytes,
      length-append left behind,
      length-append held (u.bytes ++ behind),
      length-append u.bytes behind,
      length-append held u.bytes,
    )))
