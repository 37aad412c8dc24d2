use Rattle.std.proofs.Common.{arith, rules}
use Rattle.head.specs.Heads.{up_from}
use Rattle.stdio.proofs.Moving.{one_more}
use Rattle.head.proofs.CountedUp.{all, length_up, up_at}
use Rattle.makeblock.proofs.first_words.Goals as goal

pub loop-i-preserved : goal.loop-i-preserved
loop-i-preserved c = let l = c.loop-i in
    (search rules, one_more (up_from 64 1) l.word-items l.i _ (omega arith) (omega (arith, length_up 64 1)) (omega (arith, up_at 64 1 l.i (omega arith))) l.invariant.1)

pub returns : goal.returns
returns c = let l = c.loop-i in
    all (up_from 64 1) l.word-items 64 l.i (omega arith) (length_up 64 1) (omega arith) l.invariant.1
