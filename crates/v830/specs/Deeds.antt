-- What a call is to do, its deed, and what that leaves: lines and registers that do the same have one deed. Assumes
-- nothing.
use Rattle.std.specs.Prelude.{ℕ, cond}
use Rattle.bus.specs.declared.Access.{Access}
use Rattle.bus.specs.declared.Refusal.TheVariants.{NoMeaning}
use Rattle.bus.specs.Table.{look_up, by_table}
use Rattle.meb.specs.Ring.{Memory}
use Rattle.v830.specs.declared.Call.{Call}
use Rattle.v830.specs.declared.Call.TheVariants as call
use Rattle.v830.specs.declared.deeds.Deed.{Deed}
use Rattle.v830.specs.declared.deeds.Deed.TheVariants.{Refuse, Pulses, Veto, Test, Clear, Trigger, HandOut, ReadCounter, ReadEnable, WriteEnable, ReadControl, WriteControl, SetBits, ClearBits, Reset, ReadTriggers, ReadEvents}
use Rattle.v830.specs.declared.deeds.Source.TheVariants as source
use Rattle.v830.specs.declared.Register.{Register}
use Rattle.v830.specs.declared.Register.TheVariants.{MebWindow, Counters, ChannelEnable, Control, ControlBitSet, ControlBitClear, SoftwareReset, SoftwareClear, SoftwareTrigger, TriggerCounter, MebEventNumber}
use Rattle.v830.specs.declared.V830.{V830}
use Rattle.v830.specs.State.{vetoed}
use Rattle.v830.specs.Outcomes.{Step, kept, refused, done}
use Rattle.v830.specs.Counting.{pulsed, tested, cleared}
use Rattle.v830.specs.Trigger.{triggered}
use Rattle.v830.specs.Registers.{registers, handed_out, counter_read, enable_written, controlled, as_written, with_bits, without_bits, reset, event_number}

-- the deed of an access that reaches a register and a place in it
abbrev pub deed_at : Register → ℕ → Access → Deed
deed_at MebWindow place a = HandOut
deed_at Counters place a = ReadCounter place
deed_at ChannelEnable place a = cond a.write (WriteEnable a.«data») ReadEnable
deed_at Control place a = cond a.write (WriteControl a.«data») ReadControl
deed_at ControlBitSet place a = SetBits a.«data»
deed_at ControlBitClear place a = ClearBits a.«data»
deed_at SoftwareReset place a = Reset
deed_at SoftwareClear place a = Clear source.Register
deed_at SoftwareTrigger place a = Trigger source.Register
deed_at TriggerCounter place a = ReadTriggers
deed_at MebEventNumber place a = ReadEvents

-- an access by the table, "looked up at each access"
abbrev pub deed_of_access : Access → Deed
deed_of_access a = by_table Refuse (λ name place. deed_at name place a) (look_up registers a)

-- every call; "4 also for MAN CLR on a V830, which has no such button" (document 02, M-100)
abbrev pub deed_of : Call → Deed
deed_of (call.Pulses k n) = Pulses k n
deed_of (call.VetoLine on) = Veto on
deed_of call.Test = Test
deed_of call.ClearLine = Clear source.Line
deed_of call.TriggerLine = Trigger source.Line
deed_of (call.Access a) = deed_of_access a
deed_of call.ManClr = Refuse NoMeaning

-- what each deed leaves
abbrev pub done_by : Deed → V830 → Memory → Step
done_by (Refuse why) s memory = kept memory (refused why s)
done_by (Pulses k n) s memory = kept memory (pulsed k n s)
done_by (Veto on) s memory = kept memory (done 0 (vetoed on s))
done_by Test s memory = kept memory (done 0 (tested s))
done_by (Clear by) s memory = kept memory (done 0 (cleared by s))
done_by (Trigger by) s memory = triggered by s memory
done_by HandOut s memory = kept memory (handed_out s memory)
done_by (ReadCounter k) s memory = kept memory (counter_read k s)
done_by ReadEnable s memory = kept memory (done s.enable s)
done_by (WriteEnable word) s memory = kept memory (enable_written word s)
done_by ReadControl s memory = kept memory (done s.control s)
done_by (WriteControl word) s memory = kept memory (controlled (as_written word) s)
done_by (SetBits word) s memory = kept memory (controlled (with_bits s word) s)
done_by (ClearBits word) s memory = kept memory (controlled (without_bits s word) s)
done_by Reset s memory = kept memory (done 0 (reset s))
done_by ReadTriggers s memory = kept memory (done s.tallies.triggers s)
done_by ReadEvents s memory = kept memory (event_number s)

-- the counter that a deed reads, where it reads one: one of the 32, since the table has no other
abbrev pub counter_of : Deed → ℕ
counter_of (Refuse why) = 0
counter_of (Pulses k n) = 0
counter_of (Veto on) = 0
counter_of Test = 0
counter_of (Clear by) = 0
counter_of (Trigger by) = 0
counter_of HandOut = 0
counter_of (ReadCounter k) = k
counter_of ReadEnable = 0
counter_of (WriteEnable word) = 0
counter_of ReadControl = 0
counter_of (WriteControl word) = 0
counter_of (SetBits word) = 0
counter_of (ClearBits word) = 0
counter_of Reset = 0
counter_of ReadTriggers = 0
counter_of ReadEvents = 0
