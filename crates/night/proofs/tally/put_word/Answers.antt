-- The stores of the eight bytes are one put. Assumes nothing.
use Rattle.std.proofs.Common.{◌≡◌, suc, ◌+◌, sym, ◌∙◌, arith, length-set, rules}
use Rattle.text.proofs.Putting.{put_sets}
use Rattle.night.specs.Tallies.{bytes_of}
use Rattle.night.proofs.Tallying.{high_first}
use borrow.Author.Rules.{rules}
use Rattle.night.proofs.tally.put_word.Goals as goal

pub bounds-out-at-2 : goal.bounds-out-at-2
bounds-out-at-2 c = simp length-set (omega arith)

pub bounds-out-at-3 : goal.bounds-out-at-3
bounds-out-at-3 c = simp length-set (omega arith)

pub bounds-out-at-4 : goal.bounds-out-at-4
bounds-out-at-4 c = simp length-set (omega arith)

pub bounds-out-at-5 : goal.bounds-out-at-5
bounds-out-at-5 c = simp length-set (omega arith)

pub bounds-out-at-6 : goal.bounds-out-at-6
bounds-out-at-6 c = simp length-set (omega arith)

pub bounds-out-at-7 : goal.bounds-out-at-7
bounds-out-at-7 c = simp length-set (omega arith)

pub bounds-out-at-8 : goal.bounds-out-at-8
bounds-out-at-8 c = simp length-set (omega arith)

pub shape_of-out : goal.shape_of-out
shape_of-out c = search rules depth 12

pub returns : goal.returns
unfolding bytes_of
returns c = let at = c.args.at in
    let e1 : at + 1 ≡ suc at = omega arith in
    let e2 : at + 2 ≡ suc (suc at) = omega arith in
    let e3 : at + 3 ≡ suc (suc (suc at)) = omega arith in
    let e4 : at + 4 ≡ suc (suc (suc (suc at))) = omega arith in
    let e5 : at + 5 ≡ suc (suc (suc (suc (suc at)))) = omega arith in
    let e6 : at + 6 ≡ suc (suc (suc (suc (suc (suc at))))) = omega arith in
    let e7 : at + 7 ≡ suc (suc (suc (suc (suc (suc (suc at)))))) = omega arith in
    rw (e1, e2, e3, e4, e5, e6, e7, c.to_be_bytes.ensures ∙ high_first c.args.word) (sym (put_sets c.args.out.now at (bytes_of 8 c.args.word) (omega arith)))
