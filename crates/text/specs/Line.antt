-- The lines of a listing, as docs/FORMATS.md has them: "decimal numbers separated by single blanks, each line ended
-- by a line feed" and "the line `fault NUMBER PLACE`", "the line `failed read ERRNO`". Assumes nothing.
use Rattle.std.specs.Prelude.{ℕ, ◌+◌, cond, List, [], ◌∷◌, ◌++◌, leb, length}
use Rattle.text.specs.Text.{put, decimal}

-- what follows a number, given the numbers after it: a line feed (10) after the last, a blank (32) after another
abbrev pub mark : List ℕ → ℕ
mark [] = 10
mark (n ∷ ns) = 32

-- a line of numbers
unfoldable pub line : List ℕ → List ℕ
line [] = []
line (n ∷ ns) = decimal n ++ mark ns ∷ line ns

-- "fault " in ASCII
abbrev pub fault_word : List ℕ
fault_word = 102 ∷ 97 ∷ 117 ∷ 108 ∷ 116 ∷ 32 ∷ []

-- the line `fault NUMBER PLACE`
unfoldable pub fault_line : ℕ → ℕ → List ℕ
fault_line number place = fault_word ++ line (number ∷ place ∷ [])

-- "failed read " in ASCII
abbrev pub failed_word : List ℕ
failed_word = 102 ∷ 97 ∷ 105 ∷ 108 ∷ 101 ∷ 100 ∷ 32 ∷ 114 ∷ 101 ∷ 97 ∷ 100 ∷ 32 ∷ []

-- the line `failed read ERRNO`
unfoldable pub failed_line : ℕ → List ℕ
failed_line error = failed_word ++ line (error ∷ [])

-- the buffer `out` with the text ws at the place `at` where `room` bytes are free, the most that such a text takes;
-- else as it was
abbrev pub put_in : ℕ → List ℕ → ℕ → List ℕ → List ℕ
put_in room out at ws = cond (leb (at + room) (length out)) (put out at ws) out

-- the place after it; else the same place
abbrev pub after_in : ℕ → List ℕ → ℕ → List ℕ → ℕ
after_in room out at ws = cond (leb (at + room) (length out)) (at + length ws) at
