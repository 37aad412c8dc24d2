-- The calls of a module of sixteen scales (document 01, "Counting" and "Registers of the V260 and V560"): the V260's
-- and the V560's alike. Assumes nothing.
use Rattle.std.specs.Prelude.{ℕ, ◌%◌, Bool, false, cond, ◌||◌, List, [], ◌∷◌, Option, Some, None, map, ltb, get_or}
use Rattle.count.specs.Counter.{bits_of, next, rises, iterate}
use Rattle.bus.specs.declared.Access.{Access}
use Rattle.bus.specs.declared.Refusal.TheVariants.{NoMeaning, NoChannel, Malformed}
use Rattle.bus.specs.declared.interrupter.Interrupter.{Interrupter}
use Rattle.bus.specs.Interrupting.{raised}
use Rattle.bus.specs.Table.{look_up, by_table}
use Rattle.scaler.specs.declared.Call.{Call}
use Rattle.scaler.specs.declared.Call.TheVariants as call
use Rattle.scaler.specs.declared.Order.{Order}
use Rattle.scaler.specs.declared.Order.TheVariants as order
use Rattle.scaler.specs.declared.Register.{Register}
use Rattle.scaler.specs.declared.Register.TheVariants.{ScaleIncrease, VetoReset, VetoSet, ClearAccess, LowerHalves, ClearInterrupt, DisableInterrupt, EnableInterrupt}
use Rattle.scaler.specs.declared.module.Outcome.{Outcome}
use Rattle.scaler.specs.Orders.{inhibited, counting, obeyed}
use Rattle.scaler.specs.Clock.{any_from}
use Rattle.scaler.specs.Outcomes.{refused, done, unless}
use Rattle.scaler.specs.Module.{Module}

-- whether the watched bit of a channel went from 0 to 1
abbrev pub rise_of : Option ℕ → ℕ → ℕ → Bool
rise_of (Some bit) before after = rises bit before after
rise_of None before after = false

module _ {S : Type 0} (m : Module S) where
  -- the chain of refusals begins with 12
  abbrev pub formed : S → Interrupter → Outcome S → Outcome S
  formed s i after = unless (m.formed s i) Malformed s i after

  -- ---- counting
  -- whether a watched bit of one of the sixteen channels rose
  abbrev pub rose : S → List ℕ → List ℕ → Bool
  rose s before after = any_from 0 16 (λ k. rise_of (m.watched s k) (get_or before k 0) (get_or after k 0))

  -- a step in which the channels count: "A request is raised in the step in which a watched bit goes from 0 to 1"
  abbrev pub counted : List ℕ → S → Interrupter → Outcome S
  counted after s i =
      done 0 (m.scaled (counting after (m.scales s)) s) (raised (rose s (m.scales s).counts after) i)

  -- one pulse on input k: it is not admitted when the module is inhibited, and some inputs do nothing
  abbrev pub pulse : ℕ → Outcome S → Outcome S
  pulse k o =
      cond (inhibited (m.scales o.state) || m.ignores o.state k)
      o
      (counted (m.pulsed o.state k) o.state o.interrupter)

  -- "n pulses given at once are n single pulses; 0 pulses are answered 0"; 11: channel not below 16
  abbrev pub pulses_of : S → Interrupter → ℕ → ℕ → Outcome S
  pulses_of s i k n = formed s i (unless (ltb k 16) NoChannel s i (iterate n (pulse k) (done 0 s i)))

  -- TEST and Scale Increase; 4: "with any channel joined"; "TEST adds one to each channel", and nothing when inhibited
  abbrev pub tested : S → Interrupter → Outcome S
  tested s i =
      unless (m.unjoined s) NoMeaning s i
      (cond (inhibited (m.scales s)) (done 0 s i) (counted (map (next (bits_of m.width)) (m.scales s).counts) s i))

  abbrev pub test_of : S → Interrupter → Outcome S
  test_of s i = formed s i (tested s i)

  -- ---- registers, lines and the button
  -- what a command address, a line or the button does; "such a read returns 0"
  abbrev pub obey : Order → S → Interrupter → Outcome S
  obey o s i = done 0 (m.scaled (obeyed o (m.scales s) i).scales s) (obeyed o (m.scales s) i).interrupter

  -- "offset + 2 gives that latch's lower half, 0 if never latched"
  abbrev pub lower_at : ℕ → S → Interrupter → Outcome S
  lower_at k s i = done (get_or (m.scales s).latches k 0 % 0x10000) s i

  -- an access of a register that the other module has otherwise and a place in it: 12, then what it does
  abbrev pub register_of : Register → ℕ → S → Interrupter → Access → Outcome S
  register_of register place s i a = formed s i (m.register register place s i a)

  -- what an access does to a register of the table and a place in it
  abbrev pub performed : Register → ℕ → S → Interrupter → Access → Outcome S
  performed ScaleIncrease place s i a = tested s i
  performed VetoReset place s i a = obey order.VetoReset s i
  performed VetoSet place s i a = obey order.VetoSet s i
  performed ClearAccess place s i a = obey order.ClearAccess s i
  performed LowerHalves place s i a = lower_at place s i
  performed ClearInterrupt place s i a = obey order.RemoveRequest s i
  performed DisableInterrupt place s i a = obey order.Disable s i
  performed EnableInterrupt place s i a = obey order.Enable s i
  performed register place s i a = m.register register place s i a

  -- 12, then 1, 2 and 3 by the table, then 4 (Scale Increase) and the deed
  abbrev pub access_of : S → Interrupter → Access → Outcome S
  access_of s i a = formed s i (by_table (λ why. refused why s i) (λ register place. performed register place s i a) (look_up m.registers a))

  -- a line or the button: nothing but 12 is refused
  abbrev pub order_of : Order → S → Interrupter → Outcome S
  order_of o s i = formed s i (obey o s i)

  -- a trigger, for which the module has no input: 4 (docs/FORMATS.md, `trace`)
  abbrev pub trigger_of : S → Interrupter → Outcome S
  trigger_of s i = formed s i (refused NoMeaning s i)

  -- any call
  abbrev pub step_of : S → Interrupter → Call → Outcome S
  step_of s i (call.Pulses k n) = pulses_of s i k n
  step_of s i (call.VetoLine on) = order_of (order.VetoLine on) s i
  step_of s i call.Test = test_of s i
  step_of s i call.ClearLine = order_of order.ClearLine s i
  step_of s i call.Trigger = trigger_of s i
  step_of s i (call.Access a) = access_of s i a
  step_of s i call.ManClr = order_of order.ManClr s i

  -- a list of calls, one after the other
  abbrev pub called_of : List Call → Outcome S → Outcome S
  called_of [] o = o
  called_of (c ∷ cs) o = called_of cs (step_of o.state o.interrupter c)
