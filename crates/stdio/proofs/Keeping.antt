-- What a listing keeps: writing changes no place of the input buffer. Assumes nothing.
use Rattle.std.proofs.Common.{Option, ◌≡◌, Bool, true, false, cond, ap}
use Rattle.stdio.specs.declared.Amiss.{Amiss}
use Rattle.stdio.specs.declared.Listing.{Listing}
use Rattle.stdio.specs.Listings.{is_lost, lost_by, moved_to, written_by}

-- r has the bytes of the input that l has
abbrev pub Same : Listing → Listing → Type 0
Same l r = (r.used ≡ l.used) × (r.have ≡ l.have)

-- it is written
pub written_same : (l r : Listing) (a : Option Amiss) → r ≡ written_by a l → Same l r
written_same l r a p = either (is_lost a) p
  where
    either : (b : Bool) → r ≡ cond b (lost_by a l) (moved_to l 0) → Same l r
    either true p = (ap (λ (k : Listing). k.used) p, ap (λ (k : Listing). k.have) p)
    either false p = (ap (λ (k : Listing). k.used) p, ap (λ (k : Listing). k.have) p)
