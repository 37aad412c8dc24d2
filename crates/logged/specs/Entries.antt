-- What an entry of the log asks of a V830, and the access that it makes of any module; docs/FORMATS.md, `trace`.
-- Assumes nothing.
use Rattle.std.specs.Prelude.{ℕ, Bool, true, false}
use Rattle.benchlog.specs.declared.Entry.{Entry}
use Rattle.benchlog.specs.declared.Entry.TheVariants as entry
use Rattle.bus.specs.declared.Access.{Access}
use Rattle.v830.specs.declared.Call.{Call}
use Rattle.v830.specs.declared.Call.TheVariants as call

-- "kinds 5 and 6 are accesses": a read has no data
abbrev pub access_for : Bool → ℕ → ℕ → ℕ → Access
access_for write offset width word = record { offset = offset; width = width; write = write; «data» = word }

-- "A pulse entry gives that many pulses to that channel, a veto entry sets the front veto line, kinds 2, 3 and 7 are
-- TEST, the CLEAR line and MAN CLR, kinds 5 and 6 are accesses."; kind 4 "is the V830's external trigger"
abbrev pub call830_of : Entry → Call
call830_of (entry.Pulse channel n) = call.Pulses channel n
call830_of (entry.Veto on) = call.VetoLine on
call830_of entry.Test = call.Test
call830_of entry.Clear = call.ClearLine
call830_of entry.Trigger = call.TriggerLine
call830_of (entry.Read offset width) = call.Access (access_for false offset width 0)
call830_of (entry.Write offset width word) = call.Access (access_for true offset width word)
call830_of entry.ManClr = call.ManClr
