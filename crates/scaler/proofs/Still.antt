-- A count that stays raises no request: no bit of it rises. Assumes nothing.
use Rattle.std.proofs.Common.{◌≡◌, refl, ℕ, zero, suc, Bool, false, ◌&&◌, eqb, Option, Some, None}
use lib.Dec.{eqb-suc-zero}
use Rattle.count.specs.Counter.{rises, bit}
use Rattle.scaler.specs.Calls.{rise_of}

-- a bit is not 0 and 1 at once
not_both : (b : ℕ) → (eqb b 0 && eqb b 1) ≡ false
not_both zero = refl
not_both (suc b) = rw (eqb-suc-zero b) refl

pub rise_still : (watched : Option ℕ) {before after : ℕ} → before ≡ after → rise_of watched before after ≡ false
rise_still (Some k) {before = before} e = rw (← e) (not_both (bit before k))
rise_still None e = refl
