-- The first k words are set; a turn sets one more. Assumes nothing.
use Rattle.std.proofs.Common.{length, arith}
use Rattle.head.specs.Heads.{up_from}
use Rattle.head.proofs.CountedUp.{all, length_up, up_at}
use Rattle.stdio.proofs.Moving.{one_more}
use Rattle.trace.proofs.count_up.Goals as goal

pub loop-k-preserved : goal.loop-k-preserved
loop-k-preserved c = let l = c.loop-k in
    let n = length c.args.memory.now in
    (l.invariant.0, one_more (up_from n 1) l.memory l.k _ (omega arith) (omega (arith, length_up n 1)) (omega (arith, up_at n 1 l.k (omega arith))) l.invariant.1)

pub returns : goal.returns
returns c = let l = c.loop-k in
    let n = length c.args.memory.now in
    all (up_from n 1) l.memory n l.k l.auto.memory (length_up n 1) (omega arith) l.invariant.1
