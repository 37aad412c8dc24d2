-- A step made n times, one after the other. Assumes nothing.
use Prim.Native.Nat.{ℕ, zero, suc, ◌+◌}
use mathlib.Core.Path.{◌≡◌, refl, ap, ◌∙◌}
use native.Mathlib.Nat.{zero-add, suc-add}
use Rattle.count.specs.Counter.{iterate}

-- a step made m times and then n times
pub iterate_add : {A : Type 0} (m n : ℕ) (f : A → A) (s : A) → iterate (m + n) f s ≡ iterate n f (iterate m f s)
unfolding iterate
iterate_add zero n f s = rw zero-add
iterate_add (suc m) n f s = rw suc-add (iterate_add m n f (f s))

module _ {A : Type 0} (f : A → A) (s : A) where
  pub iterate_none : iterate 0 f s ≡ s
  unfolding iterate
  iterate_none = refl

  -- and once more
  pub iterate_more : (n : ℕ) → iterate (n + 1) f s ≡ f (iterate n f s)
  unfolding iterate
  iterate_more n = iterate_add n 1 f s

-- what a step does to what is seen of a state, as long as the state keeps to `Fit`, n steps do n times
pub iterate_seen : {A B : Type 0} (step : A → A) (g : B → B) (see : A → B) (Fit : A → Type 0)
    → ((a : A) → Fit a → Fit (step a) × (see (step a) ≡ g (see a)))
    → (n : ℕ) (a : A) → Fit a → Fit (iterate n step a) × (see (iterate n step a) ≡ iterate n g (see a))
unfolding iterate
iterate_seen step g see Fit each zero a h = (h, refl)
iterate_seen step g see Fit each (suc n) a h =
    let e = each a h in
    let r = iterate_seen step g see Fit each n (step a) e.0 in
    (r.0, r.1 ∙ ap (iterate n g) e.1)

-- a step that leaves the state as it is, however often it is made
pub iterate_still : {A : Type 0} (f : A → A) (s : A) → f s ≡ s → (n : ℕ) → iterate n f s ≡ s
unfolding iterate
iterate_still f s e zero = refl
iterate_still f s e (suc n) = rw e (iterate_still f s e n)

-- a step that does nothing
pub iterate_same : {A : Type 0} (n : ℕ) (s : A) → iterate n (λ x. x) s ≡ s
iterate_same n s = iterate_still (λ x. x) s refl n
