-- The marked cases of document 01, "Reckoned by hand", in its order: of each, its line there, the module, the values
-- of its start (docs/FORMATS.md, `trace`), the steps with the number and the value of each answer, and the pulses
-- admitted. Assumes nothing.
use Rattle.std.specs.Prelude.{ℕ, true, List, [], ◌∷◌}
use Rattle.benchlog.specs.declared.Entry.{Entry}
use Rattle.benchlog.specs.declared.Entry.TheVariants.{Pulse, Veto, Trigger, Read, Write}
use Rattle.modules.specs.declared.Which.{Which}
use Rattle.modules.specs.declared.Which.TheVariants.{V260, V560, V830}
use Rattle.cases.specs.declared.Line.{Line}
use Rattle.cases.specs.declared.Step.TheVariants.{Gives, Reads}
use Rattle.cases.specs.Running.{Marked, filled}

-- an entry of the log for the module, answered so
abbrev pub gives : Entry → ℕ → ℕ → Line
gives e number value = record { step = Gives e; expected = record { number = number; value = value } }

-- bytes for the log reader, which answers so to the number that they begin with
abbrev pub reads : ℕ → ℕ → ℕ → ℕ → ℕ → ℕ → ℕ → Line
reads first second third fourth fifth number value =
    record {
      step = Reads (first ∷ second ∷ third ∷ fourth ∷ fifth ∷ []);
      expected = record { number = number; value = value };
    }

-- a case
abbrev pub case : ℕ → Which → List ℕ → List Line → ℕ → Marked
case line which start lines pulses =
    record { line = line; which = which; start = filled start; lines = lines; pulses = pulses }

-- "V560 joined, low FFFFFFFF, high 0: a pulse on input 1 gives low 0, high 1."
abbrev pub joined_section : Marked
joined_section =
    case 1 V560 (560 ∷ 0b1 ∷ 0 ∷ 0xFFFFFFFF ∷ [])
    (gives (Pulse 1 1) 0 0 ∷ gives (Read 0x14 32) 0 0 ∷ gives (Read 0x10 32) 0 1 ∷ []) 1

-- "V260, 4 and 5 joined, channels 3, 4, 5 at FFFFFF, 0, 0: a pulse on 3 gives 0, 1, 0."
abbrev pub joined_channels : Marked
joined_channels =
    case 2 V260 (260 ∷ 0b110000 ∷ 0 ∷ 0 ∷ 0 ∷ 0 ∷ 0 ∷ 0 ∷ 0xFFFFFF ∷ 0 ∷ 0 ∷ [])
    (gives (Pulse 3 1) 0 0 ∷ gives (Read 0x1C 32) 0 0xFF000000 ∷ gives (Read 0x20 32) 0 0xFF000001 ∷ gives (Read 0x24 32) 0 0xFF000000 ∷ []) 1

-- "V260 count 5 reads FF000005, inhibited 7F000005."
abbrev pub count_reads : Marked
count_reads =
    case 3 V260 (260 ∷ 0 ∷ 0 ∷ 0 ∷ 0 ∷ 5 ∷ [])
    (gives (Read 0x10 32) 0 0xFF000005 ∷ gives (Veto true) 0 0 ∷ gives (Read 0x10 32) 0 0x7F000005 ∷ []) 0

-- "Enable 5, header, GEO 1, counts 7 and 9, first trigger, of source code 0: 0C080001, 00000007, 00000009."
abbrev pub long_format : Marked
long_format =
    case 4 V830 (830 ∷ 1 ∷ 3 ∷ [])
    (gives (Write 0x1100 32 5) 0 0 ∷ gives (Write 0x1108 16 0x21) 0 0 ∷ gives (Pulse 0 7) 0 0 ∷ gives (Pulse 2 9) 0 0 ∷ gives (Write 0x1124 16 0) 0 0
    ∷ gives (Read 0 32) 0 0x0C080001 ∷ gives (Read 0 32) 0 0x00000007 ∷ gives (Read 0 32) 0 0x00000009 ∷ []) 16

-- "Short format, same: 0C080001, 00000007, 10000009."
abbrev pub short_format : Marked
short_format =
    case 5 V830 (830 ∷ 1 ∷ 3 ∷ [])
    (gives (Write 0x1100 32 5) 0 0 ∷ gives (Write 0x1108 16 0x25) 0 0 ∷ gives (Pulse 0 7) 0 0 ∷ gives (Pulse 2 9) 0 0 ∷ gives (Write 0x1124 16 0) 0 0
    ∷ gives (Read 0 32) 0 0x0C080001 ∷ gives (Read 0 32) 0 0x00000007 ∷ gives (Read 0 32) 0 0x10000009 ∷ []) 16

-- "All enabled with header, nothing read: a memory of 65 words takes one event and answers the second trigger 9"
abbrev pub takes_one : Marked
takes_one =
    case 6 V830 (830 ∷ 0 ∷ 65 ∷ [])
    (gives (Write 0x1108 16 0x21) 0 0 ∷ gives Trigger 0 0 ∷ gives Trigger 9 0 ∷ gives (Read 0x1134 16) 0 1 ∷ []) 0

-- "one of 66 takes two."
abbrev pub takes_two : Marked
takes_two =
    case 6 V830 (830 ∷ 0 ∷ 66 ∷ [])
    (gives (Write 0x1108 16 0x21) 0 0 ∷ gives Trigger 0 0 ∷ gives Trigger 0 0 ∷ gives (Read 0x1134 16) 0 2 ∷ []) 0

-- "One word, enable 1, no header, AUTO RESET: 4 pulses, trigger, 3 pulses, trigger (9), 2 pulses. Event 4, live 5,
-- admitted 9."
abbrev pub one_word : Marked
one_word =
    case 7 V830 (830 ∷ 0 ∷ 1 ∷ [])
    (gives (Write 0x1100 32 1) 0 0 ∷ gives (Write 0x1108 16 0x81) 0 0 ∷ gives (Pulse 0 4) 0 0 ∷ gives Trigger 0 0 ∷ gives (Pulse 0 3) 0 0 ∷ gives Trigger 9 0
    ∷ gives (Pulse 0 2) 0 0 ∷ gives (Read 0 32) 0 4 ∷ gives (Read 0x1000 32) 0 5 ∷ []) 9

-- "300 is AC 02; 2^32 - 1 is FF FF FF FF 0F; 80 00 gives 31." The V830 beside the log reader is asked nothing.
abbrev pub log_numbers : Marked
log_numbers =
    case 8 V830 (830 ∷ 0 ∷ 1 ∷ [])
    (reads 0xAC 0x02 0 0 0 0 300 ∷ reads 0xFF 0xFF 0xFF 0xFF 0x0F 0 0xFFFFFFFF ∷ reads 0x80 0x00 0 0 0 31 0 ∷ []) 0

-- all of them
unfoldable pub marked : List Marked
marked =
    joined_section ∷ joined_channels ∷ count_reads ∷ long_format ∷ short_format ∷ takes_one ∷ takes_two ∷ one_word ∷ log_numbers ∷ []
