-- The limits of a head that are left, one after the other, and what a number does to the head. Assumes nothing.
use Prim.Native.Nat.{ℕ, suc, ◌+◌, ◌-◌, ◌≤◌, ◌<◌, min}
use mathlib.Core.Path.{◌≡◌, refl}
use mathlib.Core.List.{List, ◌∷◌}
use Rattle.std.specs.Prelude.{Ok, Err}
use native.Mathlib.Numerals.{add-one}
use native.Mathlib.Omega.{arith}
use mathlib.Core.Bool.{Bool, true, false}
use borrow.Author.Tests.{leb-true, leb-false}
use lib.Dec.{leb}
use lib.ListN.{length, get_or, set, take, drop, drop_of_length-le}
use lib.Seq.{drop-cons, take-nil}
use Rattle.benchlog.specs.Entries.{argument_at}
use Rattle.benchlog.specs.declared.Numeral.{Numeral}
use Rattle.benchlog.specs.declared.Refused.{Refused}
use Rattle.head.specs.Heads.{done_head, head_from}

-- the limits that are left where i numbers are read
abbrev pub left : List ℕ → ℕ → List ℕ
left limits i = take (40 - i) (drop i limits)

module _ (log limits : List ℕ) (at i : ℕ) (values : List ℕ) (h : i < 40) (k : i < length limits) where
  next_limit : left limits i ≡ get_or limits i 0 ∷ left limits (i + 1)
  next_limit = let e : 40 - i ≡ suc (40 - (i + 1)) = omega arith in rw (e, drop-cons limits i 0 k, add-one)

  -- a number is read
  pub one : (n : Numeral) → argument_at log at (get_or limits i 0) ≡ Ok n
      → head_from log n.next (left limits (i + 1)) (i + 1) (set values i n.value) ≡ head_from log at (left limits i) i values
  unfolding head_from
  one n e = rw (next_limit, e, add-one)

  -- a number is refused
  pub fault : (r : Refused) → argument_at log at (get_or limits i 0) ≡ Err r → head_from log at (left limits i) i values ≡ Err r.fault
  unfolding head_from
  fault r e = rw (next_limit, e)

-- no limit is left
pub ended : (log limits : List ℕ) (at i : ℕ) (values : List ℕ) → min (length limits) 40 ≤ i → head_from log at (left limits i) i values ≡ done_head values at
unfolding head_from
ended log limits at i values h = go (leb 40 i) refl
  where
    go : (t : Bool) → leb 40 i ≡ t → head_from log at (left limits i) i values ≡ done_head values at
    go true e = let f : 40 - i ≡ 0 = omega (arith, leb-true 40 i e) in rw f
    go false e = rw (drop_of_length-le limits {i = i} (omega (arith, leb-false 40 i e)), take-nil)
