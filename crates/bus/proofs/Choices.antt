-- What holds of both of two things holds of the one that a test picks. Assumes nothing.
use mathlib.Core.Path.{◌≡◌, refl}
use mathlib.Core.Bool.{Bool, true, false, cond, ◌&&◌}

-- a choice between the same
pub cond_same : {A : Type 0} (b : Bool) (x : A) → cond b x x ≡ x
cond_same true x = refl
cond_same false x = refl

pub and_false : (b : Bool) → b && false ≡ false
and_false true = refl
and_false false = refl

pub either_way : {O : Type 0} (P : O → Type 0) (b : Bool) (x y : O) → P x → P y → P (cond b x y)
either_way P true x y p q = p
either_way P false x y p q = q

-- where the same test picks two things
pub both_ways : {A O : Type 0} (P : A → O → Type 0) (b : Bool) (u v : A) (x y : O) → P u x → P v y → P (cond b u v) (cond b x y)
both_ways P true u v x y p q = p
both_ways P false u v x y p q = q

-- where the test itself is used
pub by_test : {O : Type 0} (P : O → Type 0) (b : Bool) (x y : O) → (b ≡ true → P x) → (b ≡ false → P y) → P (cond b x y)
by_test P true x y p q = p refl
by_test P false x y p q = q refl

-- and the test itself is used
pub both_by_test : {A O : Type 0} (P : A → O → Type 0) (b : Bool) (u v : A) (x y : O) → (b ≡ true → P u x) → (b ≡ false → P v y) → P (cond b u v) (cond b x y)
both_by_test P true u v x y p q = p refl
both_by_test P false u v x y p q = q refl
