-- Document 01, "Numbers that come back", of the V260 and the V560: which number a call gets, and what a refused call
-- leaves. Assumes nothing.
use Rattle.std.specs.Prelude.{ℕ, ◌≡◌, false, cond, ltb}
use Rattle.bus.specs.declared.interrupter.Interrupter.{Interrupter}
use Rattle.bus.specs.Answers.{Answer, number_of, value_of, is_done}
use Rattle.bus.specs.Table.{table_number}
use Rattle.scaler.specs.declared.Call.{Call}
use Rattle.scaler.specs.declared.Call.TheVariants as call
use Rattle.scaler.specs.declared.module.Outcome.{Outcome}
use Rattle.scaler.specs.declared.module.Lent.{Lent}
use Rattle.scaler.specs.Module.{Module}
use Rattle.scaler.specs.Registers.{is_increase}

-- "Every one returns its number, value 0 .. and the old state, interrupter included": of a call on state s with
-- interrupter i, which answers with `answer` and leaves the state t and the interrupter j
abbrev pub Untouched : {S : Type 0} → Answer → S → Interrupter → S → Interrupter → Type 0
Untouched answer s i t j = is_done answer ≡ false → (t ≡ s) × (j ≡ i) × (value_of answer ≡ 0)

-- the same of what a call by value gives
abbrev pub Same : {S : Type 0} → S → Interrupter → Outcome S → Type 0
Same s i o = Untouched o.answer s i o.state o.interrupter

module _ {S : Type 0} (m : Module S) where
  -- 4: "TEST or Scale Increase with any channel joined"
  abbrev pub test_number : S → ℕ
  test_number s = cond (m.unjoined s) 0 4

  -- the number of each call, line by line of the list in the module order: 12, then 1, 2 and 3 by the table, 11, and
  -- 4; a trigger, for which there is no input, gets 4 (docs/FORMATS.md, `trace`)
  abbrev pub number_for : S → Interrupter → Call → ℕ
  number_for s i (call.Pulses x n) = cond (m.formed s i) (cond (ltb x 16) 0 11) 12
  number_for s i (call.VetoLine on) = cond (m.formed s i) 0 12
  number_for s i call.Test = cond (m.formed s i) (test_number s) 12
  number_for s i call.ClearLine = cond (m.formed s i) 0 12
  number_for s i call.Trigger = cond (m.formed s i) 4 12
  number_for s i (call.Access a) =
      cond (m.formed s i) (table_number m.registers a (λ register. cond (is_increase register) (test_number s) 0)) 12
  number_for s i call.ManClr = cond (m.formed s i) 0 12

  -- of a call on state s that was lent the interrupter i, handed back l and left j: its number is the one above, and
  -- where it is refused nothing is touched
  abbrev pub LentAnswered : S → Interrupter → Call → Lent S → Interrupter → Type 0
  LentAnswered s i c l j = (number_of l.answer ≡ number_for s i c) × Untouched l.answer s i l.state j
