-- A turn is one tick more, and the last turn is the n-th. Assumes nothing.
use Rattle.std.proofs.Common.{◌≡◌, sym, ap, ◌∙◌, arith}
use Rattle.count.specs.Counter.{next}
use Rattle.count.proofs.Repeats.{iterate_none, iterate_more}
use Rattle.v830.proofs.counting.ticked_often.Goals as goal

pub loop-init : goal.loop-init
loop-init c = sym (iterate_none (next 32) c.args.count)

pub loop-preserved : goal.loop-preserved
loop-preserved c = rw c.tick-count.ensures (ap (next 32) c.loop.invariant ∙ sym (iterate_more (next 32) c.args.count c.loop.counter))

pub returns : goal.returns
returns c =
    let all : c.loop.counter ≡ c.args.n = omega (arith, c.loop-test.false, c.loop.auto.counter-end) in
    rw (← all) c.loop.invariant
