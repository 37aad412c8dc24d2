-- What T4 speaks of (document 01, "Counting"): the pulses that calls bring to a channel, those of them that are
-- admitted, and the calls that clear. Assumes nothing.
use Rattle.std.specs.Prelude.{ℕ, ◌+◌, Bool, true, false, cond, ◌&&◌, not, List, [], ◌∷◌, Result, Ok, Err, eqb}
use Rattle.bus.specs.declared.Refusal.{Refusal}
use Rattle.bus.specs.declared.table.Row.{Row}
use Rattle.bus.specs.declared.table.Reached.{Reached}
use Rattle.bus.specs.Answers.{admitted}
use Rattle.bus.specs.Table.{look_up}
use Rattle.scaler.specs.declared.Call.{Call}
use Rattle.scaler.specs.declared.Call.TheVariants.{Pulses, VetoLine, Test, ClearLine, Trigger, Access, ManClr}
use Rattle.scaler.specs.declared.Register.{Register}
use Rattle.scaler.specs.declared.module.Outcome.{Outcome}
use Rattle.scaler.specs.Orders.{inhibited}
use Rattle.scaler.specs.Module.{Module}
use Rattle.scaler.specs.Calls.{step_of}
use Rattle.scaler.specs.Registers.{is_increase, is_clear}

-- whether an access reaches such a register
abbrev pub reaches : (Register → Bool) → Result (Reached Register) Refusal → Bool
reaches is (Ok to) = is to.register
reaches is (Err why) = false

-- the pulses that a call brings to channel f: its own, and one by TEST or Scale Increase ("a TEST pulse that a
-- channel counts is admitted to it too")
abbrev pub pulses_to : List (Row Register) → ℕ → Call → ℕ
pulses_to registers f (Pulses k n) = cond (eqb k f) n 0
pulses_to registers f (VetoLine on) = 0
pulses_to registers f Test = 1
pulses_to registers f ClearLine = 0
pulses_to registers f Trigger = 0
pulses_to registers f (Access a) = cond (reaches is_increase (look_up registers a)) 1 0
pulses_to registers f ManClr = 0

-- the calls that clear: "The clear access zeroes the scales .. The CLEAR line zeroes the scales only. MAN CLR does
-- all three"
abbrev pub clears : List (Row Register) → Call → Bool
clears registers (Pulses k n) = false
clears registers (VetoLine on) = false
clears registers Test = false
clears registers ClearLine = true
clears registers Trigger = false
clears registers (Access a) = reaches is_clear (look_up registers a)
clears registers ManClr = true

-- "with no clear since": none of these calls clears
abbrev pub no_clear : List (Row Register) → List Call → Bool
no_clear registers [] = true
no_clear registers (c ∷ cs) = not (clears registers c) && no_clear registers cs

-- the pulses that a list of calls, one after the other, admits to channel f
abbrev pub admitted_to : {S : Type 0} → Module S → ℕ → List Call → Outcome S → ℕ
admitted_to m f [] o = 0
admitted_to m f (c ∷ cs) o =
    let t = step_of m o.state o.interrupter c in
    admitted t.answer (inhibited (m.scales o.state)) (pulses_to m.registers f c) + admitted_to m f cs t
