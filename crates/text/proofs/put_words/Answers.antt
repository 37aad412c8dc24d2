use Rattle.std.proofs.Common.{◌+◌, ◌≤◌, length, sym, ◌∙◌, arith}
use borrow.Author.Tests.{leb-true}
use Rattle.text.proofs.Putting.{paste_one}
use Rattle.text.proofs.put_words.Goals as goal

pub loop-i-preserved : goal.loop-i-preserved
loop-i-preserved c = let l = c.loop-i in
    let a = c.args in
    let h : a.at + length a.words.now ≤ length a.numbers.now = leb-true _ _ (sym c.has_room.ensures ∙ c.if-not-has_room.false) in
    paste_one a.numbers.now a.at a.words.now l.numbers l.i c.from.result (omega arith) (omega arith) c.from.ensures l.invariant
