-- What an entry of the log does to the module; docs/FORMATS.md, `trace`. Assumes nothing.
use Rattle.std.specs.Prelude.{true, false}
use Rattle.benchlog.specs.declared.Entry.{Entry}
use Rattle.benchlog.specs.declared.Entry.TheVariants as entry
use Rattle.logged.specs.Entries.{access_for, call830_of}
use Rattle.meb.specs.Ring.{Memory}
use Rattle.scaler.specs.declared.Call.{Call}
use Rattle.scaler.specs.declared.Call.TheVariants as call
use Rattle.scaler.specs.declared.module.Outcome.{Outcome}
use Rattle.scaler.specs.Calls.{step_of}
use Rattle.v260.specs.declared.V260.{V260}
use Rattle.v260.specs.Module.{v260}
use Rattle.v560.specs.declared.V560.{V560}
use Rattle.v560.specs.Module.{v560}
use Rattle.v830.specs.declared.Outcome as o830
use Rattle.v830.specs.Calls as v830
use Rattle.modules.specs.declared.Held.{Held}
use Rattle.modules.specs.declared.Module.{Module}
use Rattle.modules.specs.declared.Module.TheVariants as held

-- "A pulse entry gives that many pulses to that channel, a veto entry sets the front veto line, kinds 2, 3 and 7 are
-- TEST, the CLEAR line and MAN CLR, kinds 5 and 6 are accesses."; what it asks of a V830 is call830_of
abbrev pub call_of : Entry → Call
call_of (entry.Pulse channel n) = call.Pulses channel n
call_of (entry.Veto on) = call.VetoLine on
call_of entry.Test = call.Test
call_of entry.Clear = call.ClearLine
call_of entry.Trigger = call.Trigger
call_of (entry.Read offset width) = call.Access (access_for false offset width 0)
call_of (entry.Write offset width word) = call.Access (access_for true offset width word)
call_of entry.ManClr = call.ManClr

-- the answer's number and value, "and what the module holds after it"
abbrev pub after260 : Outcome V260 → Held
after260 o = record { answer = o.answer; «module» = held.V260 o.state o.interrupter }

abbrev pub after560 : Outcome V560 → Held
after560 o = record { answer = o.answer; «module» = held.V560 o.state o.interrupter }

-- a V830 has no interrupter
abbrev pub after830 : o830.Outcome → Held
after830 o = record { answer = o.answer; «module» = held.V830 o.state }

-- the module after an entry
abbrev pub acted_as : Module → Memory → Entry → Held
acted_as (held.V260 s i) memory e = after260 (step_of v260 s i (call_of e))
acted_as (held.V560 s i) memory e = after560 (step_of v560 s i (call_of e))
acted_as (held.V830 s) memory e = after830 (v830.step_of s memory (call830_of e)).outcome

abbrev pub acted : Held → Memory → Entry → Held
acted t memory e = acted_as t.module memory e

-- the memory after an entry: "Each access and each trigger of a V830 is lent all the words."
abbrev pub memory_as : Module → Memory → Entry → Memory
memory_as (held.V260 s i) memory e = memory
memory_as (held.V560 s i) memory e = memory
memory_as (held.V830 s) memory e = (v830.step_of s memory (call830_of e)).memory

abbrev pub memory_after : Held → Memory → Entry → Memory
memory_after t memory e = memory_as t.module memory e
