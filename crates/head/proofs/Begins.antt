-- Reading on, behind bytes of which none is used: there are more of them, or the input has ended, or the read failed.
-- Assumes nothing.
use mathlib.Core.Path.{◌≡◌, refl, sym, ap, subst, ◌∙◌}
use mathlib.Core.Bool.{Bool, true, false, cond, not, ◌&&◌, false≢true}
use mathlib.Core.List.{List}
use Prim.Native.Nat.{ℕ, suc, ◌-◌, ◌≤◌, ◌<◌}
use native.Mathlib.Nat.{sub-zero}
use native.Mathlib.Omega.{arith}
use borrow.Author.Tests.{le-leb, eqb-false}
use lib.Dec.{eqb}
use lib.ListN.{length}
use Rattle.std.specs.Prelude.{Option, None, Some}
use Rattle.stdio.specs.declared.Amiss.{Amiss}
use Rattle.stdio.specs.declared.Listing.{Listing}
use Rattle.stdio.specs.declared.Window.{Window}
use Rattle.stdio.specs.Listings.{is_well, Gone, ReadOn}
use Rattle.stdio.specs.Window.{Left}
use Rattle.head.specs.Heads.{unused}

-- of a buffer of n bytes, h were had, and r has what is had now: more, unless the input has ended or the read failed
abbrev pub Grown : ℕ → ℕ → Listing → Type 0
Grown n h r = (r ≡ unused r.have r.ended r.amiss) × (r.have ≤ n) × (h ≤ r.have) × (is_well r.amiss ≡ true → r.ended ≡ eqb r.have h)

-- a read that did not fail
well : (left : ℕ) (w : Window) (a : Option Amiss) → Left left w a → is_well a ≡ true → w.ended ≡ eqb w.have left
well left w None p e = p
well left w (Some a) p e = absurd (false≢true e)

grown : (before after : List ℕ) (h : ℕ) (t : Bool) (r : Listing) → h ≤ length before → Gone before (unused h t None) after r → Grown (length before) h r
grown before after h t r l p =
    let q = rw (le-leb 0 h (omega arith), le-leb h (length before) l, sub-zero h) at p.0.1 in
    (p.1, p.0.0, q.0, well h (record { have = r.have; ended = r.ended; amiss = r.amiss }) r.amiss q.2)

-- a listing that goes on has nothing amiss
goes : (a : Option Amiss) (have : ℕ) (ended : Bool) → is_well a ≡ true → unused have ended a ≡ unused have ended None
goes None have ended e = refl
goes (Some a) have ended e = absurd (false≢true e)

pub grows : (before after : List ℕ) (l r : Listing) → l ≡ unused l.have l.ended l.amiss → l.more ≡ true → l.have ≤ length before
    → ReadOn before l after r → Grown (length before) l.have r
grows before after l r e m h p =
    let s = e ∙ goes l.amiss l.have l.ended (sym (ap (λ (k : Listing). k.more) e) ∙ m) in
    grown before after l.have l.ended r h (subst (λ (k : Listing). ReadOn before k after r) s p)

-- what is free of a buffer of n bytes falls, until the input has ended or a read fails
pub falls : (n h k : ℕ) (w t : Bool) → h ≤ k → k ≤ n → (w ≡ true → t ≡ eqb k h) → cond (w && not t) (suc (n - k)) 0 < suc (n - h)
falls n h k false t a b e = omega arith
falls n h k true true a b e = omega arith
falls n h k true false a b e = let d : k ≡ h → ⊥ = eqb-false k h (sym (e refl)) in omega arith
