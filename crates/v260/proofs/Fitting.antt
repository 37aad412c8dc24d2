-- A count of those that are within their 24 bits. Assumes nothing.
use Prim.Native.Nat.{ℕ, zero, suc, ◌^◌, ◌<◌}
use mathlib.Core.Path.{◌≡◌}
use mathlib.Core.Bool.{true}
use mathlib.Core.List.{List, [], ◌∷◌}
use native.Mathlib.Omega.{arith}
use borrow.Author.Tests.{ltb-true}
use lib.Dec.{ltb}
use lib.ListN.{length, get_or}
use Rattle.bus.proofs.Places.{left_of, right_of}
use Rattle.v260.specs.Outcomes.{fits}

pub fits_at : (counts : List ℕ) (k : ℕ) → fits counts ≡ true → k < length counts → get_or counts k 0 < 2 ^ 24
fits_at [] k e h = omega arith
fits_at (c ∷ cs) zero e h = ltb-true c (2 ^ 24) (left_of (ltb c (2 ^ 24)) (fits cs) e)
fits_at (c ∷ cs) (suc k) e h = fits_at cs k (right_of (ltb c (2 ^ 24)) (fits cs) e) (omega arith)
