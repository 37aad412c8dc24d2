-- The registers of the V830 (section 3.1 of source document 002 and the registers' own sections; document 01, "V830
-- store"). Assumes nothing.
use Rattle.std.specs.Prelude.{ℕ, ◌-◌, ◌%◌, ◌^◌, List, [], ◌∷◌, Option, Some, None, eqb, get_or, is_some}
use Rattle.std.specs.Int.Bits.{bit_and, bit_or}
use Rattle.bus.specs.declared.Refusal.TheVariants.{NoMeaning, NothingStored, WordsStored, Malformed}
use Rattle.bus.specs.declared.table.Row.{Row}
use Rattle.bus.specs.declared.table.Widths.TheVariants.{D16, D32}
use Rattle.bus.specs.declared.table.Directions.TheVariants.{Read, Write, ReadWrite}
use Rattle.bus.specs.Table.{row}
use Rattle.layout.specs.declared.Events.{Events}
use Rattle.layout.specs.Length.{events_in}
use Rattle.meb.specs.declared.Handed.{Handed}
use Rattle.meb.specs.Ring.{Memory}
use Rattle.meb.specs.Stores.{handed_of}
use Rattle.v830.specs.declared.Outcome.{Outcome}
use Rattle.v830.specs.declared.Register.{Register}
use Rattle.v830.specs.declared.Register.TheVariants.{MebWindow, Counters, ChannelEnable, Control, ControlBitSet, ControlBitClear, SoftwareReset, SoftwareClear, SoftwareTrigger, TriggerCounter, MebEventNumber}
use Rattle.v830.specs.declared.V830.{V830}
use Rattle.v830.specs.State.{enabling, vetoed, storing, mode, settings, power_on}
use Rattle.v830.specs.Outcomes.{refused, done, unless}
use Rattle.v830.specs.Counting.{restarted}

-- section 3.1: first and last offset, of which every fourth is meant, widths, directions, register
abbrev pub registers : List (Row Register)
registers =
    row 0x0000 0x0FFC D32 Read MebWindow
    ∷ row 0x1000 0x107C D32 Read Counters
    ∷ row 0x1100 0x1100 D32 ReadWrite ChannelEnable
    ∷ row 0x1108 0x1108 D16 ReadWrite Control
    ∷ row 0x110A 0x110A D16 Write ControlBitSet
    ∷ row 0x110C 0x110C D16 Write ControlBitClear
    ∷ row 0x1120 0x1120 D16 Write SoftwareReset
    ∷ row 0x1122 0x1122 D16 Write SoftwareClear
    ∷ row 0x1124 0x1124 D16 Write SoftwareTrigger
    ∷ row 0x1128 0x1128 D32 Read TriggerCounter
    ∷ row 0x1134 0x1134 D16 Read MebEventNumber
    ∷ []

-- 5: "V830 memory read, nothing stored"; "A read hands out the oldest word and removes it."
abbrev pub handed_on : V830 → Option Handed → Outcome
handed_on s None = refused NothingStored s
handed_on s (Some handed) = done handed.word (storing handed.store s)

abbrev pub handed_out : V830 → Memory → Outcome
handed_out s memory = handed_on s (handed_of s.store memory)

-- "A counter read gives the live count in every mode."
abbrev pub counter_read : ℕ → V830 → Outcome
counter_read k s = done (get_or s.counts k 0) s

-- 6: "Channel Enable written while words are stored"; a write "that is not refused changes that register only"; 32
-- bits count
abbrev pub enable_written : ℕ → V830 → Outcome
enable_written word s = unless (eqb s.store.stored.0 0) WordsStored s (done 0 (enabling (word % 2 ^ 32) s))

-- a write of Control by one of its three addresses; 4: "a Control result with both low bits 1"
abbrev pub controlled : ℕ → V830 → Outcome
controlled result s = unless (is_some (mode result)) NoMeaning s (done 0 (restarted result s))

-- the three results: "Bits 8 to 15 are ignored."; "Set and Clear registers change only the bits written as 1."
abbrev pub as_written : ℕ → ℕ
as_written word = word % 0x100

abbrev pub with_bits : V830 → ℕ → ℕ
with_bits s word = bit_or s.control (word % 0x100)

abbrev pub without_bits : V830 → ℕ → ℕ
without_bits s word = bit_and s.control (0xFF - word % 0x100)

-- Software Reset: as at power-on, but for GEO, capacity and the VETO line
abbrev pub reset : V830 → V830
reset s = vetoed s.veto (power_on 0 s.geo s.store.capacity.0)

-- "MEB Event Number is stored words divided by event length, rounded up, 0 if none"; 12: "words stored while the
-- event length is 0"
abbrev pub events_read : V830 → Option Events → Outcome
events_read s (Some events) = done events.0 s
events_read s None = refused Malformed s

abbrev pub event_number : V830 → Outcome
event_number s = events_read s (events_in (settings s) s.store.stored.0)
