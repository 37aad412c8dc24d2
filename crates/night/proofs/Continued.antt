-- A run is gone on with where it stopped: its lines, then those of the bytes that it left and of all that follow, are
-- the lines of all the bytes. Carried by what is read of a log staying what it is when more bytes follow. Assumes
-- nothing.
use Rattle.std.proofs.Common.{◌≡◌, ℕ, zero, suc, ◌<◌, ◌≤◌, Bool, true, false, eqb, List, [], ◌∷◌, ◌++◌, length, drop, sym, refl, ap, append-nil, arith, length-append, length-drop, drop-drop, ne_eqb}
use borrow.Author.Tests.{eqb-false}
use lib.Seq.{drop-append-le}
use Rattle.benchlog.specs.declared.Fault.{Fault}
use Rattle.benchlog.specs.declared.Fault.TheVariants.{Ends}
use Rattle.benchlog.specs.declared.Reading.{Reading}
use Rattle.benchlog.specs.declared.Refused as refusal
use Rattle.std.specs.Prelude.{Result, Ok, Err}
use Rattle.benchlog.specs.Number.{refused, number_at}
use Rattle.benchlog.specs.Entries.{entry_at}
use Rattle.benchlog.specs.Faults.{fault_number}
use Rattle.benchlog.specs.Fields.{fields_of}
use Rattle.benchlog.proofs.Places.{picked, ReadingPlace, entry_place}
use Rattle.benchlog.proofs.Stays.{entry_stays, fault_stays}
use Rattle.meb.specs.Ring.{Memory}
use Rattle.night.specs.declared.Night.{Night}
use Rattle.night.specs.declared.Next.{Next}
use Rattle.night.specs.declared.Next.TheVariants.{Lines, Bytes, Nothing, Faulted, Refused}
use Rattle.night.specs.Lines.{Line, onward, stepped, taken_of, line_of}
use Rattle.night.specs.Runs.{Run, before, stopped_at, on_reading, run_of, lines_of}

-- the lines that follow a run, where it is not at its end
abbrev pub following : Next → List Line → List Line
following Lines ls = ls
following Bytes ls = ls
following Nothing ls = []
following (Faulted number) ls = []
following (Refused why) ls = []

-- a run's lines, then those of the bytes that it left and of those behind them
abbrev pub gone_on : Run → List ℕ → List ℕ → List Line
gone_on r bytes more = r.lines ++ following r.next (lines_of (drop r.used bytes ++ more) r.night r.memory)

-- ---- more lines than bytes are enough: with more of them the run is the same
-- two ways to go on that are the same for fewer bytes
alike : (bytes : List ℕ) (n : Night) (memory : Memory) (x : Result Reading refusal.Refused) → ReadingPlace bytes 0 x → (f g : Night → Memory → List ℕ → Run)
    → ((n₁ : Night) (m₁ : Memory) (next : ℕ) → 0 < next → next ≤ length bytes → f n₁ m₁ (drop next bytes) ≡ g n₁ m₁ (drop next bytes))
    → on_reading true bytes n memory x f ≡ on_reading true bytes n memory x g
alike bytes n memory (Ok q) b f g h =
    ap (before (line_of (taken_of n memory q.entry q.next)) q.next) (h (onward n memory q.entry q.next) (stepped n memory q.entry).memory q.next b.0 b.1)
alike bytes n memory (Err q) b f g h = refl

pub enough : (k j : ℕ) (bytes : List ℕ) (n : Night) (memory : Memory) → length bytes < k → length bytes < j → run_of k true bytes n memory ≡ run_of j true bytes n memory
unfolding run_of
enough zero j bytes n memory p q = absurd (omega arith)
enough (suc k) zero bytes n memory p q = absurd (omega arith)
enough (suc k) (suc j) bytes n memory p q =
    alike bytes n memory (entry_at bytes 0) (entry_place bytes 0) (λ n₁ m₁ b. run_of k true b n₁ m₁) (λ n₁ m₁ b. run_of j true b n₁ m₁)
    (λ n₁ m₁ next l r. enough k j (drop next bytes) n₁ m₁ (omega (arith, length-drop next bytes)) (omega (arith, length-drop next bytes)))

-- ---- where no entry can be read
-- of no bytes nothing is read but that the log ends
none : (bytes : List ℕ) (f : Fault) (p : ℕ) → entry_at bytes 0 ≡ refused f p → eqb (fault_number f) (fault_number Ends) ≡ false → length bytes ≡ 0 → ⊥
unfolding entry_at number_at
none [] f p e t z = eqb-false (fault_number f) (fault_number Ends) t (sym (ap (λ (r : Result Reading refusal.Refused). (fields_of r).answer) e))
none (b ∷ bs) f p e t z = absurd (omega arith)

module _ (more bytes : List ℕ) (f : Fault) (p : ℕ) (n : Night) (memory : Memory) (e : entry_at bytes 0 ≡ refused f p) (k : ℕ) where
  -- nothing follows
  stopped_last : more ≡ [] → (run_of (suc k) true (bytes ++ more) n memory).lines ≡ gone_on (stopped_at true bytes f n memory) bytes more
  unfolding run_of
  stopped_last m = rw (m, append-nil bytes, e) (picked (λ r. r.lines ≡ gone_on r bytes []) (eqb (length bytes) 0) (λ z. refl) refl)

  -- more bytes are waited for
  stopped_waits : eqb (fault_number f) (fault_number Ends) ≡ true → length (bytes ++ more) < suc k
      → (run_of (suc k) true (bytes ++ more) n memory).lines ≡ gone_on (stopped_at false bytes f n memory) bytes more
  stopped_waits t l = rw t (ap (λ (r : Run). r.lines) (enough (suc k) (suc (length (bytes ++ more))) (bytes ++ more) n memory l (omega arith)))

  -- a fault that stays, whatever follows
  stopped_stays : eqb (fault_number f) (fault_number Ends) ≡ false
      → (run_of (suc k) true (bytes ++ more) n memory).lines ≡ gone_on (stopped_at false bytes f n memory) bytes more
  unfolding run_of
  stopped_stays t =
      rw (
        fault_stays bytes more 0 (record { fault = f; place = p }) e t,
        t,
        ne_eqb (length bytes) 0 (none bytes f p e t),
        ne_eqb (length (bytes ++ more)) 0 (λ z. none bytes f p e t (omega (arith, length-append bytes more))),
      )

  stopped_open : (b : Bool) → eqb (fault_number f) (fault_number Ends) ≡ b → length (bytes ++ more) < suc k
      → (run_of (suc k) true (bytes ++ more) n memory).lines ≡ gone_on (stopped_at false bytes f n memory) bytes more
  stopped_open true t l = stopped_waits t l
  stopped_open false t l = stopped_stays t

  stopped : (last : Bool) → (last ≡ true → more ≡ []) → length (bytes ++ more) < suc k
      → (run_of (suc k) true (bytes ++ more) n memory).lines ≡ gone_on (stopped_at last bytes f n memory) bytes more
  stopped true h l = stopped_last (h refl)
  stopped false h l = stopped_open (eqb (fault_number f) (fault_number Ends)) refl l

module _ (more : List ℕ) (last : Bool) (h : last ≡ true → more ≡ []) where
  -- one entry, where what follows it is gone on with, or none
  reading_continued : (bytes : List ℕ) (n : Night) (memory : Memory) (k : ℕ) → length (bytes ++ more) < suc k → (f : Night → Memory → List ℕ → Run)
      → ((n₁ : Night) (m₁ : Memory) (next : ℕ) → 0 < next → next ≤ length bytes
      → (run_of k true (drop next bytes ++ more) n₁ m₁).lines ≡ gone_on (f n₁ m₁ (drop next bytes)) (drop next bytes) more)
      → (x : Result Reading refusal.Refused) → entry_at bytes 0 ≡ x → ReadingPlace bytes 0 x
      → (run_of (suc k) true (bytes ++ more) n memory).lines ≡ gone_on (on_reading last bytes n memory x f) bytes more
  unfolding run_of
  reading_continued bytes n memory k l f go (Ok q) x b =
      let n₁ : Night = onward n memory q.entry q.next in
      let m₁ : Memory = (stepped n memory q.entry).memory in
      rw (entry_stays bytes more 0 q x, drop-append-le q.next bytes more b.1, ← drop-drop (f n₁ m₁ (drop q.next bytes)).used q.next bytes)
      (ap (λ (ls : List Line). line_of (taken_of n memory q.entry q.next) ∷ ls) (go n₁ m₁ q.next b.0 b.1))
  reading_continued bytes n memory k l f go (Err q) x b = stopped more bytes q.fault q.place n memory x k last h l

  -- ---- the law: whatever is left to show when a run stops is what follows its lines
  pub continued : (most k : ℕ) (bytes : List ℕ) (n : Night) (memory : Memory) → length (bytes ++ more) < k
      → (run_of k true (bytes ++ more) n memory).lines ≡ gone_on (run_of most last bytes n memory) bytes more
  unfolding run_of
  continued zero k bytes n memory l = ap (λ (r : Run). r.lines) (enough k (suc (length (bytes ++ more))) (bytes ++ more) n memory l (omega arith))
  continued (suc most) zero bytes n memory l = absurd (omega arith)
  continued (suc most) (suc k) bytes n memory l =
      reading_continued bytes n memory k l (λ n₁ m₁ b. run_of most last b n₁ m₁)
      (λ n₁ m₁ next o r. continued most k (drop next bytes) n₁ m₁
      (omega (arith, length-drop next bytes, length-append bytes more, length-append (drop next bytes) more)))
      (entry_at bytes 0) refl (entry_place bytes 0)
