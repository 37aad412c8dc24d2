-- The look-up through a list of rows, row behind row. Assumes nothing.
use Prim.Native.Nat.{ℕ, suc, ◌≤◌, ◌<◌}
use mathlib.Core.Path.{◌≡◌, sym}
use mathlib.Core.Bool.{true, false, ◌&&◌}
use mathlib.Core.List.{List}
use borrow.Author.Tests.{leb-true}
use lib.Dec.{leb}
use lib.ListN.{length, drop, drop_of_length-le}
use lib.Seq.{drop-cons}
use Rattle.std.specs.Prelude.{Err, slice_index_or}
use Rattle.bus.specs.declared.Access.{Access}
use Rattle.bus.specs.declared.Refusal.TheVariants.{NotInTable}
use Rattle.bus.specs.declared.table.Row.{Row}
use Rattle.bus.specs.Table.{covers, reach, look_up}
use Rattle.bus.proofs.Places.{left_of}

-- a row's offsets begin with its first
pub from_first : {R : Type 0} (r : Row R) (o : ℕ) → covers r o ≡ true → r.0 ≤ o
from_first r o e = leb-true r.0 o (left_of (leb r.0 o) _ (left_of (leb r.0 o && leb o r.1) _ e))

module _ {R : Type 0} (rows : List (Row R)) (i : ℕ) (a : Access) (r : Row R) (l : i < length rows) (is : r ≡ slice_index_or rows i r) where
  -- a row that has the offset gives what is looked up
  pub here : covers r a.offset ≡ true → look_up (drop i rows) a ≡ reach r a
  unfolding look_up
  here e = rw (drop-cons rows i r, sym is, e)

  -- and one that has not leaves it to the rows behind it
  pub behind : covers r a.offset ≡ false → look_up (drop i rows) a ≡ look_up (drop (suc i) rows) a
  unfolding look_up
  behind e = rw (drop-cons rows i r, sym is, e)

-- behind the last row there is none
pub ended : {R : Type 0} (rows : List (Row R)) (i : ℕ) (a : Access) → length rows ≤ i → look_up (drop i rows) a ≡ Err NotInTable
unfolding look_up
ended rows i a h = rw (drop_of_length-le rows {i = i} h)
