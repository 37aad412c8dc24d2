-- T1, demand 1, for both modules: a call that is refused leaves module and interrupter as they were, with the value
-- 0; and each number is given exactly when its line of document 01 holds and no earlier one of the order 12, 1, 2, 3,
-- 11, 4 does. Assumes nothing.
use Prim.Native.Nat.{ℕ}
use mathlib.Core.Path.{◌≡◌, refl, sym, ap, ◌∙◌}
use mathlib.Core.Bool.{Bool, cond, ◌||◌, false≢true}
use lib.Dec.{ltb}
use Rattle.count.specs.Counter.{iterate}
use Rattle.count.proofs.Repeats.{iterate_seen}
use Rattle.bus.specs.declared.Access.{Access}
use Rattle.bus.specs.declared.Refusal.{Refusal}
use Rattle.bus.specs.declared.Refusal.TheVariants.{NoMeaning, NoChannel, Malformed}
use Rattle.bus.specs.declared.interrupter.Interrupter.{Interrupter}
use Rattle.bus.specs.declared.table.Reached.{Reached}
use Rattle.std.specs.Prelude.{Result, Ok, Err}
use Rattle.bus.specs.Answers.{Answer, number_of, refusal_number, is_done}
use Rattle.bus.specs.Table.{look_up, by_table}
use Rattle.bus.proofs.Numbers.{number_at, own_number}
use Rattle.scaler.specs.declared.Register.{Register}
use Rattle.scaler.specs.declared.Call.{Call}
use Rattle.scaler.specs.declared.Call.TheVariants as call
use Rattle.scaler.specs.declared.Order.{Order}
use Rattle.scaler.specs.declared.Order.TheVariants as order
use Rattle.scaler.specs.Orders.{inhibited}
use Rattle.scaler.specs.declared.module.Outcome.{Outcome}
use Rattle.scaler.specs.Outcomes.{refused, done}
use Rattle.scaler.specs.Module.{Module}
use Rattle.scaler.specs.Calls.{counted, pulse, tested, obey, performed, step_of}
use Rattle.scaler.specs.Registers.{is_increase}
use Rattle.scaler.specs.Refusals.{Same, test_number, number_for}
use Rattle.bus.proofs.Choices.{either_way, both_ways}
use Rattle.scaler.proofs.Fair.{Inside, Does, increases, clearing, stays, Deed}

module _ {S J : Type 0} {m : Module S} (inside : Inside m J) where
  -- a call's number, and that where it refuses it changes nothing
  abbrev Gets : S → Interrupter → ℕ → Outcome S → Type 0
  Gets s i n o = (number_of o.answer ≡ n) × Same s i o

  declines : (why : Refusal) (s : S) (i : Interrupter) → Gets s i (refusal_number why) (refused why s i)
  declines why s i = (refl, λ e. (refl, refl, refl))

  does : (v : ℕ) (s : S) (i : Interrupter) (o : Outcome S) → o.answer ≡ Ok v → Gets s i 0 o
  does v s i o d = (ap number_of d, λ e. absurd (false≢true (sym e ∙ ap is_done d)))

  -- pulses on a channel are done
  pulses_done : (x n : ℕ) (o : Outcome S) → o.answer ≡ Ok 0 → (iterate n (pulse m x) o).answer ≡ Ok 0
  pulses_done x n o d =
      (iterate_seen (pulse m x) (λ (a : Answer). a) (λ (o : Outcome S). o.answer) (λ o. o.answer ≡ Ok 0)
      (λ o e.
      let p : (pulse m x o).answer ≡ Ok 0 =
      either_way (λ (o : Outcome S). o.answer ≡ Ok 0) (inhibited (m.scales o.state) || m.ignores o.state x) o (counted m (m.pulsed o.state x) o.state o.interrupter) e refl in
      (p, p ∙ sym e))
      n o d).0

  -- what a module must show of its own calls: what each row does
  pub record Answering : Type 0 where
    pub row_does : (s : S) (i : Interrupter) (a : Access) → Deed inside s i a (look_up m.registers a)

  module _ (own : Answering) (s : S) (i : Interrupter) where
    -- 12 comes first
    first : (n : ℕ) (o : Outcome S) → Gets s i n o → Gets s i (cond (m.formed s i) n 12) (cond (m.formed s i) o (refused Malformed s i))
    first n o h = both_ways (Gets s i) (m.formed s i) n 12 o (refused Malformed s i) h (declines Malformed s i)

    ordered : (o : Order) → Gets s i 0 (obey m o s i)
    ordered o = does 0 s i (obey m o s i) refl

    tested_gets : Gets s i (test_number m s) (tested m s i)
    tested_gets =
        both_ways (Gets s i) (m.unjoined s) 0 4 _ (refused NoMeaning s i)
        (either_way (Gets s i 0) (inhibited (m.scales s)) (done 0 s i) _ (does 0 s i _ refl) (does 0 s i _ refl))
        (declines NoMeaning s i)

    row_answered : {b c : Bool} {o : (Outcome S)} → Does inside s i b c o → Gets s i (cond b (test_number m s) 0) o
    row_answered increases = tested_gets
    row_answered (clearing o d) = does 0 s i o d
    row_answered (stays v o d q) = does v s i o d

    by_row : (to : Result (Reached Register) Refusal) (a : Access) → Deed inside s i a to
        → Gets s i (number_at (λ register place. cond (is_increase register) (test_number m s) 0) to) (by_table (λ why. refused why s i) (λ register place. performed m register place s i a) to)
    by_row (Err why) a d = declines why s i
    by_row (Ok to) a d = row_answered d

    answered : (c : Call) → Gets s i (number_for m s i c) (step_of m s i c)
    answered (call.Pulses x n) =
        first _ _ (both_ways (Gets s i) (ltb x 16) 0 11 _ (refused NoChannel s i)
        (does 0 s i (iterate n (pulse m x) (done 0 s i)) (pulses_done x n (done 0 s i) refl))
        (declines NoChannel s i))
    answered (call.VetoLine on) = first 0 _ (ordered (order.VetoLine on))
    answered call.Test = first _ _ tested_gets
    answered call.ClearLine = first 0 _ (ordered order.ClearLine)
    answered call.Trigger = first 4 _ (declines NoMeaning s i)
    answered (call.Access a) =
        rw (← own_number m.registers a (λ register. cond (is_increase register) (test_number m s) 0))
        (first _ _ (by_row (look_up m.registers a) a (own.row_does s i a)))
    answered call.ManClr = first 0 _ (ordered order.ManClr)

    -- T1: a refused call changes nothing and has the value 0
    pub refused_same : (c : Call) → Same s i (step_of m s i c)
    refused_same c = (answered c).1

    -- T1: each number exactly when its line holds and no earlier one does
    pub number_is : (c : Call) → number_of (step_of m s i c).answer ≡ number_for m s i c
    number_is c = (answered c).0
