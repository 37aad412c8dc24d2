-- Which number an access gets by a table: 1, 2, 3, each exactly when its line of document 01 holds and no earlier one
-- does. What holds of each row and of every refusal holds of what is looked up. Assumes nothing.
use Prim.Native.Nat.{ℕ, ◌-◌, ◌/◌, ◌%◌}
use mathlib.Core.Path.{◌≡◌, refl, sym}
use mathlib.Core.Bool.{Bool, true, false, cond, ◌&&◌, false≢true}
use mathlib.Core.List.{List, [], ◌∷◌}
use native.Mathlib.Omega.{arith}
use borrow.Author.Tests.{leb-true, leb-false}
use lib.Dec.{eqb, leb}
use Rattle.bus.specs.declared.Access.{Access}
use Rattle.bus.specs.declared.Refusal.{Refusal}
use Rattle.bus.specs.declared.Refusal.TheVariants.{NotInTable, WrongWidth, WrongDirection}
use Rattle.bus.specs.declared.table.Row.{Row}
use Rattle.bus.specs.declared.table.Reached.{Reached}
use Rattle.std.specs.Prelude.{Result, Ok, Err}
use Rattle.bus.specs.Answers.{Answer, refusal_number, value_of, is_done}
use Rattle.bus.specs.Table.{covers, takes_width, takes_direction, reach, look_up, table_number}
use Rattle.bus.proofs.Choices.{both_ways}
use Rattle.bus.proofs.Places.{left_of, right_of}

-- a refusal has the value 0
pub refusal_value : (a : Answer) → is_done a ≡ false → value_of a ≡ 0
refusal_value (Ok v) e = absurd (false≢true (sym e))
refusal_value (Err why) e = refl

-- the number of what is reached, where a register gives its own
abbrev pub number_at : {R : Type 0} → (R → ℕ → ℕ) → Result (Reached R) Refusal → ℕ
number_at number (Err why) = refusal_number why
number_at number (Ok to) = number to.register to.place

-- Q of a register whose row has this offset, wherever in it
abbrev pub Covering : {R : Type 0} → (R → ℕ → Type 0) → List (Row R) → ℕ → Type 0
Covering Q [] o = Unit {0}
Covering Q (r ∷ rs) o = (covers r o ≡ true → (place : ℕ) → Q r.4 place) × Covering Q rs o

-- what holds of the number of every refusal, and of the number of each register whose row has the offset, holds of the
-- number by the table and what is looked up
looked_up : {R : Type 0} (P : ℕ → Result (Reached R) Refusal → Type 0) (rows : List (Row R)) (a : Access) (given : R → ℕ) → ((why : Refusal) → P (refusal_number why) (Err why))
    → Covering (λ name place. P (given name) (Ok (record { register = name; place = place }))) rows a.offset → P (table_number rows a given) (look_up rows a)
unfolding look_up
looked_up P [] a given refusal g = refusal NotInTable
looked_up {R} P (r ∷ rs) a given refusal g = go (covers r a.offset) refl (looked_up P rs a given refusal g.1)
  where
    go : (b : Bool) → covers r a.offset ≡ b → P (table_number rs a given) (look_up rs a)
        → P (cond b (cond (takes_width r.2 a.width) (cond (takes_direction r.3 a.write) (given r.4) 3) 2) (table_number rs a given)) (cond b (reach r a) (look_up rs a))
    go true e t =
        both_ways P (takes_width r.2 a.width) _ 2 _ (Err WrongWidth)
        (both_ways P (takes_direction r.3 a.write) (given r.4) 3 (Ok (record { register = r.4; place = (a.offset - r.0) / 4 })) (Err WrongDirection) (g.0 e ((a.offset - r.0) / 4)) (refusal WrongDirection))
        (refusal WrongWidth)
    go false e t = t

-- a register whose row has an offset gives this number, wherever in it
abbrev pub Gives : {R : Type 0} → List (Row R) → ℕ → (R → ℕ → ℕ) → (R → ℕ) → Type 0
Gives rows o number given = Covering (λ name place. number name place ≡ given name) rows o

-- the number by the table is the number of what is looked up
pub table_number_lem : {R : Type 0} (rows : List (Row R)) (a : Access) (number : R → ℕ → ℕ) (given : R → ℕ) → Gives rows a.offset number given
    → number_at number (look_up rows a) ≡ table_number rows a given
table_number_lem rows a number given g = looked_up (λ n to. number_at number to ≡ n) rows a given (λ why. refl) g

-- and the register's own number is
pub own_number : {R : Type 0} (rows : List (Row R)) (a : Access) (given : R → ℕ) → number_at (λ name place. given name) (look_up rows a) ≡ table_number rows a given
own_number {R} rows a given = table_number_lem rows a (λ name place. given name) given (same rows)
  where
    same : (rows : List (Row R)) → Gives rows a.offset (λ name place. given name) given
    same [] = tt
    same (r ∷ rs) = ((λ e place. refl), same rs)

-- C, given Q of each register whose row has an offset
abbrev IfUsed : Bool → Type 0 → Type 0 → Type 0
IfUsed true A C = A → C
IfUsed false A C = C

abbrev pub EachRow : {R : Type 0} → (R → ℕ → Type 0) → List (Row R) → Type 0 → Type 0
EachRow Q [] C = C
EachRow Q (r ∷ rs) C = IfUsed (leb r.0 r.1) ((place : ℕ) → Q r.4 place) (EachRow Q rs C)

-- no offset is in a row that is not used
if_used : {R : Type 0} {A C : Type 0} (r : Row R) (o : ℕ) (b : Bool) → leb r.0 r.1 ≡ b → ((covers r o ≡ true → A) → C) → IfUsed b A C
if_used r o true u k = λ f. k (λ c. f)
if_used r o false u k = k (λ c. absurd (none c))
  where
    none : covers r o ≡ true → ⊥
    none c =
        let p = left_of (leb r.0 o && leb o r.1) (eqb ((o - r.0) % 4) 0) c in
        let l = leb-true r.0 o (left_of (leb r.0 o) (leb o r.1) p) in
        let g = leb-true o r.1 (right_of (leb r.0 o) (leb o r.1) p) in
        let h = leb-false r.0 r.1 u in
        omega arith

covering : {R : Type 0} (Q : R → ℕ → Type 0) (rows : List (Row R)) (o : ℕ) {C : Type 0} → (Covering Q rows o → C) → EachRow Q rows C
covering Q [] o k = k tt
covering Q (r ∷ rs) o k = if_used r o (leb r.0 r.1) refl (λ f. covering Q rs o (λ g. k (f, g)))

-- a table's rows one after the other, each with its number
pub each_number : {R : Type 0} (P : ℕ → Result (Reached R) Refusal → Type 0) (rows : List (Row R)) (a : Access) (given : R → ℕ) → ((why : Refusal) → P (refusal_number why) (Err why))
    → EachRow (λ name place. P (given name) (Ok (record { register = name; place = place }))) rows (P (table_number rows a given) (look_up rows a))
each_number P rows a given refusal = covering (λ name place. P (given name) (Ok (record { register = name; place = place }))) rows a.offset (looked_up P rows a given refusal)

-- and without
pub each_row : {R : Type 0} (P : Result (Reached R) Refusal → Type 0) (rows : List (Row R)) (a : Access) → ((why : Refusal) → P (Err why))
    → EachRow (λ name place. P (Ok (record { register = name; place = place }))) rows (P (look_up rows a))
each_row P rows a refusal = each_number (λ n. P) rows a (λ name. 0) refusal
