-- The listing of a log that is streamed: shown turn by turn, however the log is cut into pieces. Assumes nothing.
use Rattle.std.specs.Prelude.{◌≡◌, ℕ, ◌≤◌, Bool, true, false, List, [], ◌∷◌, ◌++◌, length, drop}
use Rattle.meb.specs.Ring.{Memory}
use Rattle.night.specs.declared.Night.{Night}
use Rattle.night.specs.declared.Next.{Next}
use Rattle.night.specs.declared.Next.TheVariants.{Lines, Bytes, Nothing, Faulted, Refused}
use Rattle.night.specs.Lines.{Line}
use Rattle.night.specs.Runs.{Run, replay_for}

-- a turn of the stream: the bytes that were read on, whether the input has ended by then, and the buffer for its lines
pub record Turn : Type 0 where
  pub bytes : List ℕ
  pub last : Bool
  pub out : List ℕ

-- what the turns show one after the other, and whether the listing came to its end
pub record Streamed : Type 0 where
  pub lines : List Line
  pub over : Bool

-- the lines of a turn, by what comes next, and what the turns behind it show; a night that is refused shows nothing
-- and does not come to an end
abbrev pub turned : Next → List Line → Streamed → Streamed
turned Lines ls rest = record { lines = ls ++ rest.lines; over = rest.over }
turned Bytes ls rest = record { lines = ls ++ rest.lines; over = rest.over }
turned Nothing ls rest = record { lines = ls; over = true }
turned (Faulted number) ls rest = record { lines = ls; over = true }
turned (Refused why) ls rest = record { lines = ls; over = false }

-- the turns of a night with these lent words, each of the bytes that the one before it left and those read on; `held`
-- are left before the first
unfoldable pub streamed : Night → Memory → List ℕ → List Turn → Streamed
streamed n memory held [] = record { lines = []; over = false }
streamed n memory held (t ∷ ts) =
    let r : Run = replay_for t.out t.last (held ++ t.bytes) n memory in
    turned r.next r.lines (streamed r.night r.memory (drop r.used (held ++ t.bytes)) ts)

-- all that is read on
unfoldable pub all_bytes : List Turn → List ℕ
all_bytes [] = []
all_bytes (t ∷ ts) = t.bytes ++ all_bytes ts

-- once the input has ended nothing more is read on
abbrev pub Fed : List Turn → Type 0
Fed [] = Unit {0}
Fed (t ∷ ts) = (t.last ≡ true → all_bytes ts ≡ []) × Fed ts

-- turns after the input's end, each with room for a line
abbrev pub Asking : List Turn → Type 0
Asking [] = Unit {0}
Asking (t ∷ ts) = (t.last ≡ true) × (63 ≤ length t.out) × Asking ts
