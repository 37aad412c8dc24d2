-- The lines of a night's listing (document 02, M-100: "one line an entry: its number from 1, the answer (0 when
-- done), the value read or 0, decimal, single blanks, line feeds. A log fault ends the listing with "fault", number
-- and byte place"). Assumes nothing.
use Rattle.std.specs.Prelude.{◌≡◌, ℕ, suc, ◌+◌, ◌%◌, ◌^◌, List, [], ◌∷◌, ◌++◌}
use Rattle.benchlog.specs.declared.Entry.{Entry}
use Rattle.bus.specs.Answers.{number_of, value_of}
use Rattle.logged.specs.Entries.{call830_of}
use Rattle.meb.specs.Ring.{Memory}
use Rattle.text.specs.Line.{line, fault_line}
use Rattle.v830.specs.Calls.{step_of}
use Rattle.v830.specs.Outcomes.{Step, started}
use Rattle.night.specs.declared.Night.{Night}
use Rattle.night.specs.declared.Taken.{Taken}

-- a line: the first one, or that of an entry (its number, the answer's number, the value), or of the fault that ends
-- the listing (its number, its place)
pub data Line : Type 0 where
  Heading : Line
  Shown : ℕ → ℕ → ℕ → Line
  Faulty : ℕ → ℕ → Line

-- 'First line "entry answer value"'
abbrev pub heading : List ℕ
heading =
    101 ∷ 110 ∷ 116 ∷ 114 ∷ 121 ∷ 32 ∷ 97 ∷ 110 ∷ 115 ∷ 119 ∷ 101 ∷ 114 ∷ 32 ∷ 118 ∷ 97 ∷ 108 ∷ 117 ∷ 101 ∷ 10 ∷ []

-- its bytes
abbrev pub text_of : Line → List ℕ
text_of Heading = heading
text_of (Shown entry answer value) = line (entry ∷ answer ∷ value ∷ [])
text_of (Faulty number place) = fault_line number place

-- the bytes of several
unfoldable pub text : List Line → List ℕ
text [] = []
text (l ∷ ls) = text_of l ++ text ls

-- "runs it on a fresh module with GEO 0": no entry is taken yet, and the log's first byte comes next
abbrev pub begun_at : Memory → Night
begun_at memory = record { v830 = (started 0 memory).state; entries = 0; place = 0 }

-- "The run is the module's steps in the log's order and nothing else": one entry, one step
abbrev pub stepped : Night → Memory → Entry → Step
stepped n memory e = step_of n.v830 memory (call830_of e)

-- the night after an entry of so many bytes; entries and places are counted in 64 bits
abbrev pub onward : Night → Memory → Entry → ℕ → Night
onward n memory e bytes =
    record {
      v830 = (stepped n memory e).outcome.state;
      entries = (n.entries + 1) % 2 ^ 64;
      place = (n.place + bytes) % 2 ^ 64;
    }

-- an entry taken: the night after it, and its line's three numbers
abbrev pub taken_of : Night → Memory → Entry → ℕ → Taken
taken_of n memory e bytes =
    record {
      night = onward n memory e bytes;
      entry = (n.entries + 1) % 2 ^ 64;
      answer = number_of (stepped n memory e).outcome.answer;
      value = value_of (stepped n memory e).outcome.answer;
    }

-- its line
abbrev pub line_of : Taken → Line
line_of t = Shown t.entry t.answer t.value

-- "its number from 1": the lines behind those of k entries are numbered k + 1 and so on, in 64 bits; "A log fault
-- ends the listing"
abbrev pub NumberedFrom : ℕ → List Line → Type 0
NumberedFrom k [] = Unit {0}
NumberedFrom k (Heading ∷ ls) = ⊥
NumberedFrom k (Shown entry answer value ∷ ls) = (entry ≡ (k + 1) % 2 ^ 64) × NumberedFrom (suc k) ls
NumberedFrom k (Faulty number place ∷ ls) = ls ≡ []

-- a listing's lines: the first one, then those of the entries
abbrev pub Numbered : List Line → Type 0
Numbered [] = ⊥
Numbered (Heading ∷ ls) = NumberedFrom 0 ls
Numbered (Shown entry answer value ∷ ls) = ⊥
Numbered (Faulty number place ∷ ls) = ⊥
