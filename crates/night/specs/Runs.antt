-- The run of a log, a part of it or the whole, and its listing (document 02, M-100; docs/FORMATS.md, `replay`).
-- Assumes nothing.
use Rattle.std.specs.Prelude.{ℕ, zero, suc, ◌+◌, ◌/◌, Bool, true, cond, not, ◌&&◌, List, [], ◌∷◌, length, drop, replicate, ◌==◌, Result, Ok, Err}
use Rattle.benchlog.specs.declared.Fault.{Fault}
use Rattle.benchlog.specs.declared.Fault.TheVariants.{Ends}
use Rattle.benchlog.specs.declared.Reading.{Reading}
use Rattle.benchlog.specs.declared.Refused as refusal
use Rattle.benchlog.specs.Entries.{entry_at}
use Rattle.benchlog.specs.Faults.{fault_number}
use Rattle.night.specs.declared.Night.{Night}
use Rattle.night.specs.declared.Next.{Next}
use Rattle.night.specs.declared.Next.TheVariants.{Lines, Bytes, Nothing, Faulted, Refused}
use Rattle.night.specs.declared.Part.{Part}
use Rattle.bus.specs.Answers.{Answer}
use Rattle.meb.specs.Ring.{Memory, lent}
use Rattle.v830.specs.Calls.{gate_of}
use Rattle.night.specs.Lines.{Line, Heading, text, Faulty, begun_at, stepped, onward, taken_of, line_of}

-- a run: its lines, the bytes that they are of, the night and the lent words after them, and what comes next: further
-- lines, further bytes first, or nothing, at the log's end or behind a fault; or why nothing is run
pub record Run : Type 0 where
  pub lines : List Line
  pub used : ℕ
  pub night : Night
  pub memory : Memory
  pub next : Next

-- a run that ends here, with these lines
abbrev pub ends_here : List Line → Next → Night → Memory → Run
ends_here ls next n memory = record { lines = ls; used = 0; night = n; memory = memory; next = next }

-- a line, of so many bytes, and what follows it
abbrev pub before : Line → ℕ → Run → Run
before l bytes p = record { lines = l ∷ p.lines; used = bytes + p.used; night = p.night; memory = p.memory; next = p.next }

-- no entry can be read: the bytes end before it does and more may come; "End of input between two entries ends the
-- listing with no further line"; "A fault in the log ends it"
abbrev pub stopped_at : Bool → List ℕ → Fault → Night → Memory → Run
stopped_at last bytes fault n memory =
    cond (not last && fault_number fault == fault_number Ends) (ends_here [] Bytes n memory)
    (cond (length bytes == 0) (ends_here [] Nothing n memory)
    (ends_here (Faulty (fault_number fault) n.place ∷ []) (Faulted (fault_number fault)) n memory))

-- an entry is read, or none
abbrev pub on_reading : Bool → List ℕ → Night → Memory → Result Reading refusal.Refused → (Night → Memory → List ℕ → Run) → Run
on_reading last bytes n memory (Ok r) rest =
    before (line_of (taken_of n memory r.entry r.next)) r.next
    (rest (onward n memory r.entry r.next) (stepped n memory r.entry).memory (drop r.next bytes))
on_reading last bytes n memory (Err r) rest = stopped_at last bytes r.fault n memory

-- at most so many lines of the bytes at hand, which are the log's last ones or not
unfoldable pub run_of : ℕ → Bool → List ℕ → Night → Memory → Run
run_of zero last bytes n memory = ends_here [] Lines n memory
run_of (suc most) last bytes n memory = on_reading last bytes n memory (entry_at bytes 0) (λ n₁ memory₁ bytes₁. run_of most last bytes₁ n₁ memory₁)

-- as many lines as surely fit a buffer: a line has at most 63 bytes, three numbers of 20 digits and what follows each
abbrev pub run_for : List ℕ → Bool → List ℕ → Night → Memory → Run
run_for out last bytes n memory = run_of (length out / 63) last bytes n memory

-- a run that the gate lets pass, or why nothing is run
abbrev pub let_pass : Answer → Run → Night → Memory → Run
let_pass (Ok value) run n memory = run
let_pass (Err why) run n memory = ends_here [] (Refused why) n memory

-- 12 and 10 are asked once: a night whose module is malformed, or whose memory has another length, gets its number,
-- and nothing of the log is run
abbrev pub replay_for : List ℕ → Bool → List ℕ → Night → Memory → Run
replay_for out last bytes n memory = let_pass (gate_of n.v830 memory) (run_for out last bytes n memory) n memory

-- the lines of a log's bytes, to its end: an entry has a byte at least, so that there are no more lines than bytes
-- and one for a fault
abbrev pub lines_of : List ℕ → Night → Memory → List Line
lines_of log n memory = (run_of (suc (length log)) true log n memory).lines

-- "a fresh module with GEO 0 and 16,384 words"
abbrev pub fresh_words : Memory
fresh_words = lent (replicate 16384 0)

-- the listing of a log
abbrev pub listing : List ℕ → List Line
listing log = Heading ∷ lines_of log (begun_at fresh_words) fresh_words

-- what is answered of a run, behind so many bytes used and so many put out
abbrev pub part_behind : ℕ → ℕ → Run → Part
part_behind used at r = record { night = r.night; used = used + r.used; at = at + length (text r.lines); next = r.next }

abbrev pub part_of : Run → Part
part_of r = part_behind 0 0 r
