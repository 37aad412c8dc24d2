-- The number of an entry, counted up as its line shows it: what the functions of src/tally.rt promise each other, and
-- no public one speaks of. Assumes nothing.
use Rattle.std.specs.Prelude.{ℕ, zero, suc, ◌+◌, ◌*◌, ◌/◌, ◌%◌, List, [], ◌∷◌, ◌++◌}

-- the last k decimal digits of n, as the bytes of a number, the highest digit in the highest byte
unfoldable pub word_of : ℕ → ℕ → ℕ
word_of zero n = 0
word_of (suc k) n = word_of k (n / 10) * 256 + (48 + n % 10)

-- the last k bytes of a number, the highest first
unfoldable pub bytes_of : ℕ → ℕ → List ℕ
bytes_of zero w = []
bytes_of (suc k) w = bytes_of k (w / 256) ++ ((w % 256) ∷ [])
