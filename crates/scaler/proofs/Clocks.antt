-- A channel is clocked, turn by turn: it counts, and hands its carry on or does not. Of n turns c are over. Assumes
-- nothing.
use Prim.Native.Nat.{ℕ, suc, ◌+◌, ◌-◌, ◌<◌, ◌≤◌}
use mathlib.Core.Path.{◌≡◌}
use mathlib.Core.Bool.{Bool, true, false, ◌&&◌}
use mathlib.Core.List.{List}
use native.Mathlib.Omega.{arith}
use lib.ListN.{get_or}
use Rattle.count.specs.Counter.{carries}
use Rattle.scaler.specs.Clock.{count_one, clocked}

module _ (w : ℕ) (joins : ℕ → Bool) (after : ℕ → ℕ) (n c k : ℕ) (counts : List ℕ) where
  pub clocked_stops : c < n → carries w (get_or counts k 0) && joins k ≡ false → clocked w joins after (n - c) k counts ≡ count_one w k counts
  unfolding clocked
  clocked_stops h e = let turn : n - c ≡ suc (n - (c + 1)) = omega arith in rw (turn, e)

  pub clocked_on : c < n → carries w (get_or counts k 0) && joins k ≡ true
      → clocked w joins after (n - c) k counts ≡ clocked w joins after (n - (c + 1)) (after k) (count_one w k counts)
  unfolding clocked
  clocked_on h e = let turn : n - c ≡ suc (n - (c + 1)) = omega arith in rw (turn, e)

  pub clocked_over : n ≤ c → clocked w joins after (n - c) k counts ≡ counts
  unfolding clocked
  clocked_over h = let e : n - c ≡ 0 = omega arith in rw e
