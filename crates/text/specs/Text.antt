-- Text in a buffer; docs/FORMATS.md: "print decimal numbers". A byte is its ASCII code. Assumes nothing.
use Rattle.std.specs.Prelude.{ℕ, zero, suc, ◌+◌, ◌/◌, ◌%◌, cond, List, [], ◌∷◌, ◌++◌, leb, ltb, length, take, drop}

-- the buffer `out` with the bytes ws at the place `at` where they fit, else as it was
unfoldable pub put : List ℕ → ℕ → List ℕ → List ℕ
put out at ws = cond (leb (at + length ws) (length out)) (take at out ++ ws ++ drop (at + length ws) out) out

-- the place after them where they fit, else the same place
unfoldable pub after : List ℕ → ℕ → List ℕ → ℕ
after out at ws = cond (leb (at + length ws) (length out)) (at + length ws) at

-- the decimal digits of n, the highest first, the fewest and at least one, of which there are at most k
unfoldable pub digits_of : ℕ → ℕ → List ℕ
digits_of zero n = []
digits_of (suc k) n = cond (ltb n 10) ((48 + n) ∷ []) (digits_of k (n / 10) ++ ((48 + n % 10) ∷ []))

-- a number below 2^64 has at most 20 digits
unfoldable pub decimal : ℕ → List ℕ
decimal n = digits_of 20 n
