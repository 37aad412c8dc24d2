-- T1's words for the V830: what a refused call leaves, and the number that each call gets, line by line of document
-- 01 in its order 12, 10, 1, 2, 3, 11, 4, 6, 5, 7, 8, 9. Assumes nothing.
use Rattle.std.specs.Prelude.{ℕ, ◌≡◌, Bool, false, cond, ◌&&◌, eqb, leb, ltb, length, is_some}
use Rattle.bus.specs.Answers.{refusal_number, value_of, is_done}
use Rattle.bus.specs.Table.{table_number}
use Rattle.layout.specs.Length.{event_length}
use Rattle.meb.specs.Ring.{Memory}
use Rattle.meb.specs.Stores.{free}
use Rattle.v830.specs.declared.Call.{Call}
use Rattle.v830.specs.declared.Call.TheVariants as call
use Rattle.v830.specs.declared.deeds.Deed.{Deed}
use Rattle.v830.specs.declared.deeds.Deed.TheVariants.{Refuse, Pulses, Veto, Test, Clear, Trigger, HandOut, ReadCounter, ReadEnable, WriteEnable, ReadControl, WriteControl, SetBits, ClearBits, Reset, ReadTriggers, ReadEvents}
use Rattle.v830.specs.declared.V830.{V830}
use Rattle.v830.specs.State.{mode, is_random, settings, formed}
use Rattle.v830.specs.Outcomes.{Step}
use Rattle.v830.specs.Registers.{registers, as_written, with_bits, without_bits}
use Rattle.v830.specs.Deeds.{deed_at}
use Rattle.v830.specs.Calls.{is_lent_right}

-- what a call leaves that, if it refuses, changes nothing: "Every one returns its number, value 0 .. and the old
-- state"; "lent memory is untouched"
abbrev pub Same : V830 → Memory → Step → Type 0
Same s memory r = is_done r.outcome.answer ≡ false → (r.outcome.state ≡ s) × (r.memory ≡ memory) × (value_of r.outcome.answer ≡ 0)

-- a link of the chain of numbers: this one, unless its line does not hold; else what comes after it
abbrev pub unless_number : Bool → ℕ → ℕ → ℕ
unless_number holds number after = cond holds after number

-- 7: "mode is not random"; 8: "the event would have no words"; 9: "free words are fewer than the event's"
abbrev pub trigger_number : V830 → ℕ
trigger_number s =
    unless_number (is_random (mode s.control)) 7
    (unless_number (ltb 0 (event_length (settings s))) 8
    (unless_number (leb (event_length (settings s)) (free s.store).0) 9 0))

-- 4: "a Control result with both low bits 1"
abbrev pub control_number : ℕ → ℕ
control_number result = unless_number (is_some (mode result)) 4 0

-- what a deed gives: 11: "channel not below .. 32"; 4; 6: "Channel Enable written while words are stored"; 5: "V830
-- memory read, nothing stored"; 7, 8, 9
abbrev pub deed_number : V830 → Deed → ℕ
deed_number s (Refuse why) = refusal_number why
deed_number s (Pulses k n) = unless_number (ltb k 32) 11 0
deed_number s (Veto on) = 0
deed_number s Test = 0
deed_number s (Clear by) = 0
deed_number s (Trigger by) = trigger_number s
deed_number s HandOut = unless_number (ltb 0 s.store.stored.0) 5 0
deed_number s (ReadCounter k) = 0
deed_number s ReadEnable = 0
deed_number s (WriteEnable word) = unless_number (eqb s.store.stored.0 0) 6 0
deed_number s ReadControl = 0
deed_number s (WriteControl word) = control_number (as_written word)
deed_number s (SetBits word) = control_number (with_bits s word)
deed_number s (ClearBits word) = control_number (without_bits s word)
deed_number s Reset = 0
deed_number s ReadTriggers = 0
deed_number s ReadEvents = 0

-- 1, 2 and 3 of an access by the table; 4 also for MAN CLR
abbrev pub call_number : V830 → Call → ℕ
call_number s (call.Pulses k n) = deed_number s (Pulses k n)
call_number s (call.VetoLine on) = 0
call_number s call.Test = 0
call_number s call.ClearLine = 0
call_number s call.TriggerLine = trigger_number s
call_number s (call.Access a) = table_number registers a (λ name. deed_number s (deed_at name 0 a))
call_number s call.ManClr = 4

-- 12: "state record .. malformed"; 10: "lent memory has not the length fixed at the start"
abbrev pub number_for : V830 → Memory → Call → ℕ
number_for s memory c = unless_number (formed s) 12 (unless_number (is_lent_right s memory c) 10 (call_number s c))

-- the start: 12: "GEO above 31"; 10: "outside 1 to 32,768 words"
abbrev pub start_number : ℕ → Memory → ℕ
start_number geo memory =
    unless_number (leb geo 31) 12 (unless_number (leb 1 (length memory.words) && leb (length memory.words) 32768) 10 0)
