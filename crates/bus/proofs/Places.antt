-- A place that an access reaches lies within its row: where every row of a table has at most n places, so has what is
-- reached. Assumes nothing.
use Prim.Native.Nat.{ℕ, ◌-◌, ◌/◌, ◌≤◌, ◌<◌}
use mathlib.Core.Path.{◌≡◌, refl}
use mathlib.Core.Bool.{Bool, true, false, cond, ◌&&◌, false≢true}
use mathlib.Core.List.{List, [], ◌∷◌}
use native.Mathlib.Omega.{arith}
use borrow.Author.Tests.{leb-true, ltb-true}
use lib.Dec.{leb, ltb}
use Rattle.bus.specs.declared.Access.{Access}
use Rattle.bus.specs.declared.Refusal.{Refusal}
use Rattle.bus.specs.declared.Refusal.TheVariants.{WrongWidth, WrongDirection}
use Rattle.bus.specs.declared.table.Row.{Row}
use Rattle.bus.specs.declared.table.Reached.{Reached}
use Rattle.std.specs.Prelude.{Result, Ok, Err}
use Rattle.bus.specs.Table.{covers, takes_width, takes_direction, reach, look_up}

-- what is reached is one of the places of its register, of which one has at most n of it
abbrev pub Within : {R : Type 0} → (R → ℕ) → Result (Reached R) Refusal → Type 0
Within n (Ok to) = to.place < n to.register
Within n (Err why) = Unit {0}

-- every row has at most that many places
abbrev pub narrow : {R : Type 0} → (R → ℕ) → List (Row R) → Bool
narrow n [] = true
narrow n (r ∷ rs) = ltb ((r.1 - r.0) / 4) (n r.4) && narrow n rs

-- the two parts of a conjunction that holds
pub left_of : (a b : Bool) → a && b ≡ true → a ≡ true
left_of true b e = refl
left_of false b e = e

pub right_of : (a b : Bool) → a && b ≡ true → b ≡ true
right_of true b e = e
right_of false b e = absurd (false≢true e)

module _ {R : Type 0} (n : R → ℕ) (r : Row R) (a : Access) (h : (r.1 - r.0) / 4 < n r.4) where
  -- a row's place lies before its last offset
  in_row : covers r a.offset ≡ true → (a.offset - r.0) / 4 < n r.4
  in_row e =
      let p = left_of (leb r.0 a.offset && leb a.offset r.1) _ e in
      let l : a.offset ≤ r.1 = leb-true a.offset r.1 (right_of (leb r.0 a.offset) _ p) in
      omega arith

  reach_narrow : (w d : Bool) → (a.offset - r.0) / 4 < n r.4
      → Within n (cond w (cond d (Ok (record { register = r.4; place = (a.offset - r.0) / 4 })) (Err WrongDirection)) (Err WrongWidth))
  reach_narrow true true l = l
  reach_narrow true false l = tt
  reach_narrow false d l = tt

  -- the row that has the offset, or what the rows behind it give
  here : (b : Bool) (rest : Result (Reached R) Refusal) → covers r a.offset ≡ b → Within n rest → Within n (cond b (reach r a) rest)
  here true rest e l = reach_narrow (takes_width r.2 a.width) (takes_direction r.3 a.write) (in_row e)
  here false rest e l = l

pub places_narrow : {R : Type 0} (n : R → ℕ) (rows : List (Row R)) (a : Access) → narrow n rows ≡ true → Within n (look_up rows a)
unfolding look_up
places_narrow n [] a e = tt
places_narrow n (r ∷ rs) a e =
    here n r a (ltb-true ((r.1 - r.0) / 4) (n r.4) (left_of (ltb ((r.1 - r.0) / 4) (n r.4)) _ e)) (covers r a.offset) (look_up rs a) refl
    (places_narrow n rs a (right_of (ltb ((r.1 - r.0) / 4) (n r.4)) _ e))
