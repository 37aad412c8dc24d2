-- Looking through the channels one after the other for one that does. Assumes nothing.
use Prim.Native.Nat.{ℕ, suc, ◌+◌, ◌-◌, ◌≤◌, ◌<◌}
use mathlib.Core.Path.{◌≡◌, sym, ◌∙◌}
use mathlib.Core.Bool.{Bool, true, false}
use native.Mathlib.Nat.{sub-zero}
use native.Mathlib.Numerals.{add-one}
use native.Mathlib.Omega.{arith}
use Rattle.scaler.specs.Clock.{any_from}

-- of n channels from 0 on, those from k on are left to look through, and give what all give
pub record Looking (does : ℕ → Bool) (n k : ℕ) : Type 0 where
  pub within : k ≤ n
  pub same : any_from k (n - k) does ≡ any_from 0 n does

pub any_start : (does : ℕ → Bool) (n : ℕ) → Looking does n 0
any_start does n = record { within = omega arith; same = rw sub-zero }

module _ {does : ℕ → Bool} {n k : ℕ} (e : Looking does n k) (h : k < n) where
  -- n - k of one channel more
  one_more : n - k ≡ suc (n - (k + 1))
  one_more = omega arith

  pub any_found : does k ≡ true → any_from 0 n does ≡ true
  unfolding any_from
  any_found d = sym e.same ∙ rw (one_more, d)

  pub any_missed : does k ≡ false → Looking does n (k + 1)
  unfolding any_from
  any_missed d =
      let t : any_from (suc k) (n - (k + 1)) does ≡ any_from 0 n does = rw (one_more, d) at e.same in
      record { within = omega arith; same = rw (← add-one) at t }

pub any_over : {does : ℕ → Bool} {n k : ℕ} → Looking does n k → n ≤ k → any_from 0 n does ≡ false
unfolding any_from
any_over {n = n} {k = k} e h = let z : n - k ≡ 0 = omega arith in sym (rw z at e.same)
