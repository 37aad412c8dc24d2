-- A list that is filled from its front, and bytes that are moved to the front of their buffer. Assumes nothing.
use Rattle.std.proofs.Common.{◌≡◌, ℕ, ◌+◌, ◌-◌, ◌<◌, ◌≤◌, List, length, get_or, take, drop, set, sym, ap, ◌∙◌, add-one, arith, length-drop, take-suc, take-suc-set}
use Rattle.std.specs.List.{copy_within}
use borrow.Rule.Slice.PartMut.{put_mid, take_put}
use lib.Seq.{length-take-le, take_at}

-- one more of the elements of a list is stored behind those that are there
pub one_more : (l a : List ℕ) (i v : ℕ) → i < length a → i < length l → v ≡ get_or l i 0 → take i a ≡ take i l → take (i + 1) (set a i v) ≡ take (i + 1) l
one_more l a i v h k e before = rw (add-one, take-suc-set a i v h, before, e) (sym (take-suc l i 0 k))

-- the bytes from `used` up to `have`, copied to the front, stay there when more is read behind them
pub tail_kept : (buf moved more : List ℕ) (used have n : ℕ) → used ≤ have → have ≤ length buf → length moved ≡ length buf → moved ≡ copy_within buf used have 0
    → take (have - used) (put_mid (have - used) n moved more) ≡ take (have - used) (drop used buf)
tail_kept buf moved more used have n h k l e =
    let left : ℕ = have - used in
    let m : length (take left (drop used buf)) ≡ left = length-take-le left (drop used buf) (rw length-drop (omega arith)) in
    take_put left n moved more (omega arith) ∙ ap (take left) e ∙ take_at (take left (drop used buf)) (drop (0 + left) buf) left m
