-- Document 01, "V830 store" and "Event layout": what a trigger does. Assumes nothing.
use Rattle.std.specs.Prelude.{ℕ, ◌/◌, ◌%◌, ◌^◌, Bool, cond, List, [], ◌∷◌, eqb, leb, ltb}
use Rattle.bus.specs.declared.Refusal.TheVariants.{NotRandom, NoWords, TooFewFree}
use Rattle.count.specs.Counter.{next}
use Rattle.layout.specs.declared.Event.{Event}
use Rattle.layout.specs.Layout.{event_words}
use Rattle.layout.specs.Length.{event_length}
use Rattle.layout.specs.Reader.{count_in}
use Rattle.meb.specs.declared.Store.{Store}
use Rattle.meb.specs.Ring.{Memory}
use Rattle.meb.specs.Stores.{Filled, free, put_of}
use Rattle.v830.specs.declared.deeds.Source.{Source}
use Rattle.v830.specs.declared.deeds.Source.TheVariants.{Line, Register}
use Rattle.v830.specs.declared.V830.{V830}
use Rattle.v830.specs.State.{counting, storing, tallying, with_triggers, mode, is_random, is_set, settings, zeros}
use Rattle.v830.specs.Outcomes.{Step, done, unless_lent}

-- section 3.2 of 002: the trigger's source is 1, "external", by the line, and 0, "VME request", by the register
abbrev pub code_of : Source → ℕ
code_of Line = 1
code_of Register = 0

-- what an event has of a channel's count, short "modulo 2^26", and 0 of a disabled one; `bit` is the channel's bit of
-- Channel Enable
abbrev pub event_count : Bool → ℕ → ℕ → ℕ
event_count short bit count = cond (eqb bit 1) (count_in short count) 0

-- that of every channel; the mask's lowest bit is the first one's
unfoldable pub event_counts : Bool → ℕ → List ℕ → List ℕ
event_counts short mask [] = []
event_counts short mask (c ∷ cs) = event_count short (mask % 2) c ∷ event_counts short (mask / 2) cs

-- the event: GEO, the trigger's source, "the Trigger Counter modulo 2^16 after counting this trigger", and the
-- counts; "Without header, the header fields read as 0"
abbrev pub event_of : Source → V830 → Event
event_of by s =
    record {
      geo = cond (settings s).header s.geo 0;
      source = cond (settings s).header (code_of by) 0;
      trigger = cond (settings s).header (next 32 s.tallies.triggers % 2 ^ 16) 0;
      counts = event_counts (settings s).short s.enable s.counts;
    }

-- "adds one to the 32-bit Trigger Counter (wrapping), stores the event at once, and with AUTO RESET zeroes all 32
-- counters"
abbrev pub counted : Store → V830 → V830
counted store s =
    counting (cond (is_set 7 s.control) zeros s.counts)
    (tallying (with_triggers (next 32 s.tallies.triggers) s.tallies)
    (storing store s))

-- the store and the memory with the event's words
abbrev pub filled_by : Source → V830 → Memory → Filled
filled_by by s memory = put_of s.store memory (event_words (settings s) (event_of by s))

abbrev pub accepted : Source → V830 → Memory → Step
accepted by s memory = record { outcome = done 0 (counted (filled_by by s memory).store s); memory = (filled_by by s memory).memory }

-- 7: "trigger, mode is not random"; 8: "the event would have no words"; 9: "trigger, free words are fewer than the
-- event's"; "A neglected trigger (7, 8, 9) changes nothing. BUSY time is taken as nothing."
abbrev pub triggered : Source → V830 → Memory → Step
triggered by s memory =
    unless_lent (is_random (mode s.control)) NotRandom s memory
    (unless_lent (ltb 0 (event_length (settings s))) NoWords s memory
    (unless_lent (leb (event_length (settings s)) (free s.store).0) TooFewFree s memory
    (accepted by s memory)))
