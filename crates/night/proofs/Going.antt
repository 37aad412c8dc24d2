-- A run whose lines are put into a buffer: what is put so far and what is left give the whole; carried by the clauses
-- of `run_of` and by two puts that are one. Assumes nothing.
use Rattle.std.proofs.Common.{◌≡◌, ℕ, zero, suc, ◌+◌, ◌-◌, ◌*◌, ◌/◌, ◌<◌, ◌≤◌, Bool, true, false, cond, not, ◌&&◌, eqb, leb, List, [], ◌∷◌, ◌++◌, length, drop, sym, refl, ap, ◌∙◌, ap₂, append-nil, arith, length-append, length-drop, drop-drop, le-leb}
use Rattle.benchlog.specs.declared.Entry.{Entry}
use Rattle.benchlog.specs.declared.Fault.{Fault}
use Rattle.benchlog.specs.declared.Fault.TheVariants.{Ends}
use Rattle.benchlog.specs.declared.Reading.{Reading}
use Rattle.benchlog.specs.declared.Refused as refusal
use Rattle.std.specs.Prelude.{Result, Ok, Err}
use Rattle.benchlog.specs.Entries.{entry_at}
use Rattle.benchlog.specs.Faults.{fault_number}
use Rattle.benchlog.specs.Number.{refused}
use Rattle.benchlog.proofs.Places.{entry_place}
use Rattle.bus.specs.Answers.{Answer}
use Rattle.meb.specs.Ring.{Memory, lent}
use Rattle.text.specs.Line.{line, fault_line, fault_word, put_in, after_in}
use Rattle.text.specs.Text.{put}
use Rattle.text.proofs.Decimal.{length_line}
use Rattle.text.proofs.Putting.{put_nil, put_more, length_put}
use Rattle.v830.specs.Calls.{gate_of}
use Rattle.night.specs.declared.Next.{Next}
use Rattle.night.specs.declared.Next.TheVariants.{Lines, Bytes, Nothing, Faulted}
use Rattle.night.specs.declared.Night.{Night}
use Rattle.night.specs.declared.Part.{Part}
use Rattle.night.specs.declared.Taken.{Taken}
use Rattle.night.specs.Lines.{Line, Heading, Shown, Faulty, text_of, text, stepped, onward, taken_of, line_of}
use Rattle.night.specs.Runs.{Run, ends_here, before, stopped_at, on_reading, run_of, let_pass, run_for, replay_for, part_behind, part_of}

-- a line has at most 63 bytes
line_fits : (l : Line) → length (text_of l) ≤ 63
unfolding fault_line
line_fits Heading = omega arith
line_fits (Shown e a v) = length_line (e ∷ a ∷ v ∷ [])
line_fits (Faulty n p) =
    let h : length (fault_word ++ line (n ∷ p ∷ [])) ≡ 6 + length (line (n ∷ p ∷ [])) = length-append fault_word (line (n ∷ p ∷ [])) in
    omega (arith, h, length_line (n ∷ p ∷ []))

-- a run that ends here puts nothing
pub nothing_put : (used at : ℕ) (n : Night) (next : Next) (memory : Memory) (out : List ℕ) → at ≤ length out
    → ◌≡◌ {A = Part} (record { night = n; used = used; at = at; next = next }) (part_behind used at (ends_here [] next n memory))
    × (out ≡ put out at (text (ends_here [] next n memory).lines))
unfolding text
nothing_put used at n next memory out h =
    (ap₂ (λ (u a : ℕ). record { night = n; used = u; at = a; next = next }) (omega arith) (omega arith), sym (put_nil out at h))

-- a run that ends with the line of a fault puts it
pub fault_put : (used at number place : ℕ) (n : Night) (memory : Memory) (out out₁ : List ℕ) (end : ℕ) → at + 48 ≤ length out
    → end ≡ after_in 48 out at (fault_line number place) → out₁ ≡ put_in 48 out at (fault_line number place)
    → ◌≡◌ {A = Part} (record { night = n; used = used; at = end; next = Faulted number }) (part_behind used at (ends_here (Faulty number place ∷ []) (Faulted number) n memory))
    × (out₁ ≡ put out at (text (Faulty number place ∷ [])))
unfolding text
fault_put used at number place n memory out out₁ end h e f =
    let t : leb (at + 48) (length out) ≡ true = le-leb (at + 48) (length out) h in
    let one : fault_line number place ++ [] ≡ fault_line number place = append-nil (fault_line number place) in (
      ap₂ (λ (u a : ℕ). record { night = n; used = u; at = a; next = Faulted number }) (omega arith)
          (e ∙ ap (λ (b : Bool). cond b (at + length (fault_line number place)) at) t ∙ ap (λ (ws : List ℕ). at + length ws) (sym one)),
      f ∙ ap (λ (b : Bool). cond b (put out at (fault_line number place)) out) t ∙ ap (put out at) (sym one),
    )

-- the run with other words lent
abbrev lends_to : Memory → Run → Run
lends_to memory r = record { lines = r.lines; used = r.used; night = r.night; memory = memory; next = r.next }

-- one line and the rest of a run fit where the run does
text_cons : (l : Line) (ls : List Line) → length (text (l ∷ ls)) ≡ length (text_of l) + length (text ls)
unfolding text
text_cons l ls = length-append (text_of l) (text ls)

-- what holds of the three ways in which a run stops holds of the one that the tests pick
module _ (P : Run → Type 0) (last : Bool) (bytes : List ℕ) (fault : Fault) (n : Night) (memory : Memory) where
  stopped : P (ends_here [] Bytes n memory) → P (ends_here [] Nothing n memory) → P (ends_here (Faulty (fault_number fault) n.place ∷ []) (Faulted (fault_number fault)) n memory)
      → P (stopped_at last bytes fault n memory)
  stopped p q r = go (not last && eqb (fault_number fault) (fault_number Ends)) (eqb (length bytes) 0)
    where
      go : (a b : Bool) → P (cond a (ends_here [] Bytes n memory) (cond b (ends_here [] Nothing n memory) (ends_here (Faulty (fault_number fault) n.place ∷ []) (Faulted (fault_number fault)) n memory)))
      go true b = p
      go false true = q
      go false false = r

stopped_fits : (last : Bool) (bytes : List ℕ) (fault : Fault) (n : Night) (memory : Memory) → length (text (stopped_at last bytes fault n memory).lines) ≤ 63
unfolding text
stopped_fits last bytes fault n memory =
    let l : Line = Faulty (fault_number fault) n.place in
    stopped (λ (x : Run). length (text x.lines) ≤ 63) last bytes fault n memory (omega arith) (omega arith) (omega (arith, text_cons l [], line_fits l))

stopped_lent : (last : Bool) (bytes : List ℕ) (fault : Fault) (n : Night) (memory : Memory) → (stopped_at last bytes fault n memory).memory ≡ memory
stopped_lent last bytes fault n memory = stopped (λ (x : Run). x.memory ≡ memory) last bytes fault n memory refl refl refl

-- the words lent play no part in where it stops
module _ (last : Bool) (bytes : List ℕ) (fault : Fault) (n : Night) where
  same_but_memory : (m₁ m₂ : Memory) → lends_to m₂ (stopped_at last bytes fault n m₁) ≡ stopped_at last bytes fault n m₂
  same_but_memory m₁ m₂ = go (not last && eqb (fault_number fault) (fault_number Ends)) (eqb (length bytes) 0)
    where
      go : (a b : Bool)
          → lends_to m₂ (cond a (ends_here [] Bytes n m₁) (cond b (ends_here [] Nothing n m₁) (ends_here (Faulty (fault_number fault) n.place ∷ []) (Faulted (fault_number fault)) n m₁)))
          ≡ cond a (ends_here [] Bytes n m₂) (cond b (ends_here [] Nothing n m₂) (ends_here (Faulty (fault_number fault) n.place ∷ []) (Faulted (fault_number fault)) n m₂))
      go true b = refl
      go false true = refl
      go false false = refl

  stopped_part : (used at : ℕ) (m₁ m₂ : Memory) → part_behind used at (stopped_at last bytes fault n m₁) ≡ part_behind used at (stopped_at last bytes fault n m₂)
  stopped_part used at m₁ m₂ = ap (part_behind used at) (same_but_memory m₁ m₂)

  pub stopped_lines : (m₁ m₂ : Memory) → (stopped_at last bytes fault n m₁).lines ≡ (stopped_at last bytes fault n m₂).lines
  stopped_lines m₁ m₂ = ap (λ (x : Run). x.lines) (same_but_memory m₁ m₂)

-- where no entry can be read a run stops
run_stops : (left : ℕ) → 0 < left → (last : Bool) (bytes : List ℕ) (n : Night) (memory : Memory) (fault : Fault) (place : ℕ)
    → entry_at bytes 0 ≡ refused fault place → run_of left last bytes n memory ≡ stopped_at last bytes fault n memory
unfolding run_of
run_stops zero h last bytes n memory fault place r = absurd (omega arith)
run_stops (suc left) h last bytes n memory fault place r =
    ap (λ (x : Result Reading refusal.Refused). on_reading last bytes n memory x (λ n₂ memory₂ bytes₂. run_of left last bytes₂ n₂ memory₂)) r

pub run_fits : (most : ℕ) (last : Bool) (bytes : List ℕ) (n : Night) (memory : Memory) → length (text (run_of most last bytes n memory).lines) ≤ 63 * most
unfolding run_of text
run_fits zero last bytes n memory = omega arith
run_fits (suc most) last bytes n memory = go (entry_at bytes 0) (λ bytes₁ n₁ memory₁. run_fits most last bytes₁ n₁ memory₁)
  where
    go : (r : Result Reading refusal.Refused)
        → ((bytes₁ : List ℕ) (n₁ : Night) (memory₁ : Memory) → length (text (run_of most last bytes₁ n₁ memory₁).lines) ≤ 63 * most)
        → length (text (on_reading last bytes n memory r (λ n₁ memory₁ bytes₁. run_of most last bytes₁ n₁ memory₁)).lines) ≤ 63 * suc most
    go (Ok q) h =
        let l : Line = line_of (taken_of n memory q.entry q.next) in
        let rest : Run = run_of most last (drop q.next bytes) (onward n memory q.entry q.next) (stepped n memory q.entry).memory in
        omega (arith, text_cons l rest.lines, line_fits l, h (drop q.next bytes) (onward n memory q.entry q.next) (stepped n memory q.entry).memory)
    go (Err q) h = omega (arith, stopped_fits last bytes q.fault n memory)

-- an entry ends in the bytes that it is read of
pub within : (bytes : List ℕ) (q : Reading) → entry_at bytes 0 ≡ Ok q → q.next ≤ length bytes
within bytes q r = (rw r at (entry_place bytes 0)).1

-- a run uses no more bytes than there are
pub run_used : (most : ℕ) (last : Bool) (bytes : List ℕ) (n : Night) (memory : Memory) → (run_of most last bytes n memory).used ≤ length bytes
unfolding run_of
run_used zero last bytes n memory = omega arith
run_used (suc most) last bytes n memory = go (entry_at bytes 0) refl (λ bytes₁ n₁ memory₁. run_used most last bytes₁ n₁ memory₁)
  where
    go : (r : Result Reading refusal.Refused) → entry_at bytes 0 ≡ r
        → ((bytes₁ : List ℕ) (n₁ : Night) (memory₁ : Memory) → (run_of most last bytes₁ n₁ memory₁).used ≤ length bytes₁)
        → (on_reading last bytes n memory r (λ n₁ memory₁ bytes₁. run_of most last bytes₁ n₁ memory₁)).used ≤ length bytes
    go (Ok q) r h =
        omega (arith, within bytes q r, length-drop q.next bytes, h (drop q.next bytes) (onward n memory q.entry q.next) (stepped n memory q.entry).memory)
    go (Err q) r h =
        stopped (λ (x : Run). x.used ≤ length bytes) last bytes q.fault n memory (omega arith) (omega arith) (omega arith)

-- nor does what is replayed, refused or not
pub part_used : (p : Part) (out : List ℕ) (last : Bool) (bytes : List ℕ) (n : Night) (memory : Memory) → p ≡ part_of (replay_for out last bytes n memory) → p.used ≤ length bytes
part_used p out last bytes n memory e =
    omega (arith, ap (λ (x : Part). x.used) e, used (gate_of n.v830 memory))
  where
    used : (a : Answer) → (let_pass a (run_for out last bytes n memory) n memory).used ≤ length bytes
    used (Ok value) = run_used (length out / 63) last bytes n memory
    used (Err why) = omega arith

-- of a run of at most `most` lines, begun with the buffer out₀: the lines of `used` bytes are put up to `at`, and
-- `left` more may come
pub record Going (whole : Run) (out₀ log : List ℕ) (last : Bool) (left used at : ℕ) (n : Night) (memory : Memory) (out : List ℕ) : Type 0 where
  pub len : length out ≡ length out₀
  pub room : at + 63 * left ≤ length out
  pub in_log : used ≤ length log
  pub part : part_of whole ≡ part_behind used at (run_of left last (drop used log) n memory)
  pub words : whole.memory ≡ (run_of left last (drop used log) n memory).memory
  pub puts : put out₀ 0 (text whole.lines) ≡ put out at (text (run_of left last (drop used log) n memory).lines)

pub start : (most : ℕ) (last : Bool) (log : List ℕ) (n : Night) (memory : Memory) (out : List ℕ) → 63 * most ≤ length out
    → Going (run_of most last log n memory) out log last most 0 0 n memory out
start most last log n memory out h = record { len = refl; room = omega arith; in_log = omega arith; part = refl; words = refl; puts = refl }

module _ {whole : Run} {out₀ log : List ℕ} {last : Bool} {used at : ℕ} {n : Night} {memory : Memory} {out : List ℕ} where
  -- an entry is read and taken: its line is put, and the rest stands behind it
  one : (left : ℕ) (e : Entry) (bytes at₁ : ℕ) (out₁ : List ℕ)
      → Going whole out₀ log last (suc left) used at n memory out
      → entry_at (drop used log) 0 ≡ Ok (record { entry = e; next = bytes })
      → at₁ ≡ at + length (text_of (line_of (taken_of n memory e bytes)))
      → out₁ ≡ put out at (text_of (line_of (taken_of n memory e bytes)))
      → Going whole out₀ log last left (used + bytes) at₁ (onward n memory e bytes) (stepped n memory e).memory out₁
  unfolding run_of text
  one left e bytes at₁ out₁ g r p q =
      let l : Line = line_of (taken_of n memory e bytes) in
      let n₁ : Night = onward n memory e bytes in
      let m₁ : Memory = (stepped n memory e).memory in
      let rest : Run = run_of left last (drop bytes (drop used log)) n₁ m₁ in
      let f : run_of (suc left) last (drop used log) n memory ≡ before l bytes rest =
      ap (λ (x : Result Reading refusal.Refused). on_reading last (drop used log) n memory x (λ n₂ memory₂ bytes₂. run_of left last bytes₂ n₂ memory₂)) r in
      let d : run_of left last (drop (used + bytes) log) n₁ m₁ ≡ rest =
      ap (λ (b : List ℕ). run_of left last b n₁ m₁) (sym (drop-drop bytes used log)) in
      let fits : length (text rest.lines) ≤ 63 * left = run_fits left last (drop bytes (drop used log)) n₁ m₁ in
      let ends : at + length (text_of l) ≤ length out = omega (arith, g.room, line_fits l) in
      record {
        len = ap length q ∙ length_put out at (text_of l) ends ∙ g.len;
        room = omega (arith, ap length q, length_put out at (text_of l) ends, g.room, line_fits l, p);
        in_log = omega (arith, within (drop used log) (record { entry = e; next = bytes }) r, length-drop used log, g.in_log);
        part =
            g.part ∙ ap (part_behind used at) f
            ∙ ap₂ (λ (u a : ℕ). record { night = rest.night; used = u; at = a; next = rest.next }) (omega arith) (omega (arith, text_cons l rest.lines, p))
            ∙ ap (part_behind (used + bytes) at₁) (sym d);
        words = g.words ∙ ap (λ (x : Run). x.memory) f ∙ ap (λ (x : Run). x.memory) (sym d);
        puts =
            g.puts ∙ ap (λ (x : Run). put out at (text x.lines)) f
            ∙ sym (put_more out at (text_of l) (text rest.lines) (omega (arith, g.room, line_fits l, fits)))
            ∙ ap₂ (λ (o : List ℕ) (a : ℕ). put o a (text rest.lines)) (sym q) (sym p)
            ∙ ap (λ (x : Run). put out₁ at₁ (text x.lines)) (sym d);
      }

  -- the same where `left` lines may come: t is what taking the entry gave, m₁ the lent words then
  pub again : (left : ℕ) (e : Entry) (bytes : ℕ) (t : Taken) (m₁ : Memory) (end : ℕ) (out₁ : List ℕ) → 0 < left
      → Going whole out₀ log last left used at n memory out
      → entry_at (drop used log) 0 ≡ Ok (record { entry = e; next = bytes })
      → t ≡ taken_of n memory e bytes → m₁ ≡ (stepped n memory e).memory
      → end ≡ after_in 63 out at (text_of (line_of t)) → out₁ ≡ put_in 63 out at (text_of (line_of t))
      → Going whole out₀ log last (left - 1) (used + bytes) end t.night m₁ out₁
  again zero e bytes t m₁ end out₁ h g r f d p q = absurd (omega arith)
  again (suc left) e bytes t m₁ end out₁ h g r f d p q =
      let less : suc left - 1 ≡ left = omega arith in
      let fits : leb (at + 63) (length out) ≡ true = le-leb (at + 63) (length out) (omega (arith, g.room)) in
      let l : text_of (line_of t) ≡ text_of (line_of (taken_of n memory e bytes)) = ap (λ (x : Taken). text_of (line_of x)) f in
      rw (less, f, d)
      (one left e bytes end out₁ g r
      (p ∙ ap (λ (x : Bool). cond x (at + length (text_of (line_of t))) at) fits ∙ ap (λ (ws : List ℕ). at + length ws) l)
      (q ∙ ap (λ (x : Bool). cond x (put out at (text_of (line_of t))) out) fits ∙ ap (put out at) l))

  -- no entry can be read: the run ends as `stopped_at` says, which leaves the lent words
  module _ (left : ℕ) (h : 0 < left) (g : Going whole out₀ log last left used at n memory out) (fault : Fault) (place : ℕ)
      (r : entry_at (drop used log) 0 ≡ refused fault place) where
    stops : run_of left last (drop used log) n memory ≡ stopped_at last (drop used log) fault n memory
    stops = run_stops left h last (drop used log) n memory fault place r

    pub stops_part : part_behind used at (stopped_at last (drop used log) fault n (lent [])) ≡ part_of whole
    stops_part = stopped_part last (drop used log) fault n used at (lent []) memory ∙ sym (g.part ∙ ap (part_behind used at) stops)

    pub stops_lent : memory ≡ whole.memory
    stops_lent = sym (g.words ∙ ap (λ (x : Run). x.memory) stops ∙ stopped_lent last (drop used log) fault n memory)

    pub stops_puts : put out at (text (stopped_at last (drop used log) fault n (lent [])).lines) ≡ put out₀ 0 (text whole.lines)
    stops_puts =
        ap (λ (ls : List Line). put out at (text ls)) (stopped_lines last (drop used log) fault n (lent []) memory)
        ∙ sym (g.puts ∙ ap (λ (x : Run). put out at (text x.lines)) stops)

  -- no line more is asked for
  pub ends : Going whole out₀ log last 0 used at n memory out
      → ◌≡◌ {A = Part} (record { night = n; used = used; at = at; next = Lines }) (part_of whole)
      × (memory ≡ whole.memory) × (out ≡ put out₀ 0 (text whole.lines))
  unfolding run_of
  ends g =
      let p = nothing_put used at n Lines memory out (omega (arith, g.room)) in
      (p.0 ∙ sym g.part, sym g.words, p.1 ∙ sym g.puts)
