-- Words counted up, as the lent words are at first: how many they are, each of them, and an array that is filled with
-- a list. Assumes nothing.
use Prim.Native.Nat.{ℕ, zero, suc, ◌+◌, ◌<◌, ◌≤◌}
use mathlib.Core.Path.{◌≡◌, refl, sym, ◌∙◌}
use mathlib.Core.List.{List}
use native.Mathlib.Omega.{arith}
use lib.ListN.{length, get_or, take}
use lib.Seq.{take_all}
use Rattle.head.specs.Heads.{up_from}

pub length_up : (n k : ℕ) → length (up_from n k) ≡ n
unfolding up_from
length_up zero k = refl
length_up (suc n) k = omega (arith, length_up n (suc k))

pub up_at : (n k i : ℕ) → i < n → get_or (up_from n k) i 0 ≡ k + i
unfolding up_from
up_at zero k i h = omega arith
up_at (suc n) k zero h = omega arith
up_at (suc n) k (suc i) h = omega (arith, up_at n (suc k) i (omega arith))

-- all elements of a list are stored
pub all : (l a : List ℕ) (n i : ℕ) → length a ≡ n → length l ≡ n → n ≤ i → take i a ≡ take i l → a ≡ l
all l a n i h k j before = sym (take_all i a (omega arith)) ∙ before ∙ take_all i l (omega arith)
