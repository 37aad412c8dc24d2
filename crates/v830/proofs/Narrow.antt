-- The counter that a call's deed reads is one of the 32, since the table has no other; and a call that is lent the
-- module's memory is lent right. Assumes nothing.
use Prim.Native.Nat.{ℕ, ◌<◌}
use mathlib.Core.Path.{◌≡◌, refl}
use mathlib.Core.Bool.{Bool, true, false, cond, ◌||◌, not}
use native.Mathlib.Omega.{arith}
use borrow.Author.Tests.{eq-eqb}
use lib.ListN.{length}
use Rattle.std.specs.Prelude.{Result, Ok, Err}
use Rattle.bus.specs.declared.Access.{Access}
use Rattle.bus.specs.declared.Refusal.{Refusal}
use Rattle.bus.specs.declared.table.Reached.{Reached}
use Rattle.bus.specs.Table.{look_up, by_table}
use Rattle.bus.proofs.Places.{Within, places_narrow}
use Rattle.meb.specs.Ring.{Memory}
use Rattle.v830.specs.declared.Call.{Call}
use Rattle.v830.specs.declared.Call.TheVariants as call
use Rattle.v830.specs.declared.Register.{Register}
use Rattle.v830.specs.declared.Register.TheVariants.{MebWindow, Counters, ChannelEnable, Control, ControlBitSet, ControlBitClear, SoftwareReset, SoftwareClear, SoftwareTrigger, TriggerCounter, MebEventNumber}
use Rattle.v830.specs.declared.V830.{V830}
use Rattle.v830.specs.declared.deeds.Deed.{Deed}
use Rattle.v830.specs.declared.deeds.Deed.TheVariants.{Refuse}
use Rattle.v830.specs.Registers.{registers}
use Rattle.v830.specs.Deeds.{deed_at, deed_of, counter_of}
use Rattle.v830.specs.Calls.{is_lent, is_lent_right}

-- so many places has a register's row at most
abbrev places : Register → ℕ
places MebWindow = 1024
places Counters = 32
places ChannelEnable = 1024
places Control = 1024
places ControlBitSet = 1024
places ControlBitClear = 1024
places SoftwareReset = 1024
places SoftwareClear = 1024
places SoftwareTrigger = 1024
places TriggerCounter = 1024
places MebEventNumber = 1024

-- by the direction
either : (b : Bool) (d e : Deed) → counter_of d < 32 → counter_of e < 32 → counter_of (cond b d e) < 32
either true d e x y = x
either false d e x y = y

row_narrow : (name : Register) (place : ℕ) (a : Access) → place < places name → counter_of (deed_at name place a) < 32
row_narrow MebWindow place a l = omega arith
row_narrow Counters place a l = l
row_narrow ChannelEnable place a l = either a.write _ _ (omega arith) (omega arith)
row_narrow Control place a l = either a.write _ _ (omega arith) (omega arith)
row_narrow ControlBitSet place a l = omega arith
row_narrow ControlBitClear place a l = omega arith
row_narrow SoftwareReset place a l = omega arith
row_narrow SoftwareClear place a l = omega arith
row_narrow SoftwareTrigger place a l = omega arith
row_narrow TriggerCounter place a l = omega arith
row_narrow MebEventNumber place a l = omega arith

access_narrow : (a : Access) (r : Result (Reached Register) Refusal) → Within places r → counter_of (by_table Refuse (λ name place. deed_at name place a) r) < 32
access_narrow a (Ok to) l = row_narrow to.register to.place a l
access_narrow a (Err why) l = omega arith

pub counter_narrow : (c : Call) → counter_of (deed_of c) < 32
counter_narrow (call.Pulses k n) = omega arith
counter_narrow (call.VetoLine on) = omega arith
counter_narrow call.Test = omega arith
counter_narrow call.ClearLine = omega arith
counter_narrow call.TriggerLine = omega arith
counter_narrow (call.Access a) = access_narrow a (look_up registers a) (places_narrow places registers a refl)
counter_narrow call.ManClr = omega arith

-- a call that is lent the module's memory is lent right
pub lent_right : (s : V830) (memory : Memory) (c : Call) → length memory.words ≡ s.store.capacity.0 → is_lent_right s memory c ≡ true
lent_right s memory c e = rw (eq-eqb _ _ e) (go (not (is_lent c)))
  where
    go : (b : Bool) → b || true ≡ true
    go true = refl
    go false = refl
