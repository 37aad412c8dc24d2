-- A number of 32 bits has no bit from 32 on. Assumes nothing.
use Prim.Native.Nat.{ℕ, ◌^◌, ◌≤◌, ◌<◌}
use mathlib.Core.Path.{◌≡◌}
use native.Mathlib.Nat.{div-eq_of_lt, pow-le-pow_right, lt_of_lt_of_le}
use native.Mathlib.Omega.{arith}
use Rattle.count.specs.Counter.{bit}

pub no_bit : (w k x : ℕ) → w ≤ k → x < 2 ^ w → bit x k ≡ 0
no_bit w k x h b = rw (div-eq_of_lt (lt_of_lt_of_le b (pow-le-pow_right {n = 2} (omega arith) h)))
