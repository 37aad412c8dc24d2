-- A night whose module is not malformed and has its memory: what the gate asks, and what each entry and each run
-- leave so. Carried by the V830's laws of the same. Assumes nothing.
use Rattle.std.proofs.Common.{◌≡◌, ℕ, zero, suc, Bool, true, false, cond, not, ◌&&◌, eqb, List, length, drop, sym, refl, ap, ◌∙◌, eq-eqb, eqb-true}
use mathlib.Core.Bool.{false≢true}
use Rattle.benchlog.specs.declared.Entry.{Entry}
use Rattle.benchlog.specs.declared.Fault.TheVariants.{Ends}
use Rattle.benchlog.specs.declared.Reading.{Reading}
use Rattle.benchlog.specs.declared.Refused as refusal
use Rattle.std.specs.Prelude.{Result, Ok, Err}
use Rattle.benchlog.specs.Entries.{entry_at}
use Rattle.benchlog.specs.Faults.{fault_number}
use Rattle.benchlog.proofs.Places.{picked}
use Rattle.std.specs.Prelude.{Ok, Err}
use Rattle.bus.specs.declared.Refusal.TheVariants.{Malformed, WrongMemory}
use Rattle.bus.specs.Answers.{Answer, is_done}
use Rattle.logged.specs.Entries.{call830_of}
use Rattle.meb.specs.Ring.{Memory, lent}
use Rattle.v830.specs.State.{formed}
use Rattle.v830.specs.Calls.{has_length, gate_of}
use Rattle.v830.proofs.Staying.{formed_stays, sound_stays}
use Rattle.night.specs.declared.Night.{Night}
use Rattle.night.specs.declared.Taken.{Taken}
use Rattle.night.specs.Lines.{onward, stepped, taken_of}
use Rattle.night.specs.Runs.{Run, on_reading, run_of, let_pass, run_for, replay_for}

abbrev pub words : Memory → List ℕ
words m = m.words

-- what `run` carries along
abbrev pub Sound : Night → Memory → Type 0
Sound n memory = (formed n.v830 ≡ true) × (length memory.words ≡ n.v830.store.capacity.0)

-- an entry leaves it so
pub step_sound : (n : Night) (memory : Memory) (e : Entry) (bytes : ℕ) → Sound n memory → Sound (onward n memory e bytes) (stepped n memory e).memory
step_sound n memory e bytes s = (formed_stays n.v830 memory (call830_of e) s.0, sound_stays n.v830 memory (call830_of e) s.1)

-- the same where t is what taking the entry gave, ws the lent words then
pub taken_sound : (n : Night) (memory : Memory) (e : Entry) (bytes : ℕ) (t : Taken) (ws : List ℕ) (x : Result Reading refusal.Refused) → x ≡ Ok (record { entry = e; next = bytes }) → Sound n memory
    → t ≡ taken_of n memory e bytes → ws ≡ (stepped n memory e).memory.words → Sound t.night (lent ws)
taken_sound n memory e bytes t ws x r s p q =
    let k = step_sound n memory e bytes s in
    (ap (λ (x : Taken). formed x.night.v830) p ∙ k.0, ap length q ∙ k.1 ∙ sym (ap (λ (x : Taken). x.night.v830.store.capacity.0) p))

-- ---- what the gate asks is this
both_pass : (a b : Bool) → is_done (cond a (cond b (Ok 0) (Err WrongMemory)) (Err Malformed)) ≡ true → (a ≡ true) × (b ≡ true)
both_pass true true e = (refl, refl)
both_pass true false e = absurd (false≢true e)
both_pass false b e = absurd (false≢true e)

pub gate_sound : (n : Night) (memory : Memory) → is_done (gate_of n.v830 memory) ≡ true → Sound n memory
gate_sound n memory e =
    let p = both_pass (formed n.v830) (has_length n.v830 memory) e in
    (p.0, eqb-true _ _ p.1)

pub sound_gate : (n : Night) (memory : Memory) → Sound n memory → gate_of n.v830 memory ≡ Ok 0
sound_gate n memory s = rw (s.0, eq-eqb (length memory.words) n.v830.store.capacity.0 s.1)

-- ---- a run leaves it so
reading_sound : (last : Bool) (bytes : List ℕ) (n : Night) (memory : Memory) → Sound n memory → (f : Night → Memory → List ℕ → Run)
    → ((n₁ : Night) (m₁ : Memory) (b : List ℕ) → Sound n₁ m₁ → Sound (f n₁ m₁ b).night (f n₁ m₁ b).memory)
    → (x : Result Reading refusal.Refused) → Sound (on_reading last bytes n memory x f).night (on_reading last bytes n memory x f).memory
reading_sound last bytes n memory s f go (Ok q) =
    go (onward n memory q.entry q.next) (stepped n memory q.entry).memory (drop q.next bytes) (step_sound n memory q.entry q.next s)
reading_sound last bytes n memory s f go (Err q) =
    let P : Run → Type 0 = λ r. Sound r.night r.memory in
    picked P (not last && eqb (fault_number q.fault) (fault_number Ends)) (λ t. s) (picked P (eqb (length bytes) 0) (λ t. s) s)

pub run_sound : (most : ℕ) (last : Bool) (bytes : List ℕ) (n : Night) (memory : Memory) → Sound n memory
    → Sound (run_of most last bytes n memory).night (run_of most last bytes n memory).memory
unfolding run_of
run_sound zero last bytes n memory s = s
run_sound (suc most) last bytes n memory s =
    reading_sound last bytes n memory s (λ n₁ m₁ b. run_of most last b n₁ m₁) (λ n₁ m₁ b h. run_sound most last b n₁ m₁ h) (entry_at bytes 0)

-- ---- replayed, a night that the gate lets pass is run
pub passed : (out : List ℕ) (last : Bool) (bytes : List ℕ) (n : Night) (memory : Memory) → gate_of n.v830 memory ≡ Ok 0
    → replay_for out last bytes n memory ≡ run_for out last bytes n memory
passed out last bytes n memory e = ap (λ (a : Answer). let_pass a (run_for out last bytes n memory) n memory) e
