use Prim.Native.Nat.{◌-◌}
use mathlib.Core.Path.{◌∙◌}
use native.Mathlib.Omega.{arith}
use Rattle.benchlog.proofs.Weights.{no_next, product_fits, weight_fits, next_last, next_more}
use borrow.Author.Rules.{rules}
use Rattle.benchlog.proofs.numbers.further.Goals as goal

pub returns-then-log-at : goal.returns-then-log-at
returns-then-log-at c = rw c.at.ensures (no_next c.loop-g.invariant c.loop-g-test.true c.if-log-at.true)

pub last_group-requires : goal.last_group-requires
last_group-requires c = (search rules, product_fits c.loop-g.invariant _ c.loop-g-test.true c.if-b-le127.true, c.loop-g.invariant.weight)

pub returns-then-b-le127 : goal.returns-then-b-le127
returns-then-b-le127 c = let d = c in c.last_group.ensures ∙ next_last d.loop-g.invariant _ d.loop-g-test.true d.if-log-at.false d.wide-b.ensures.0 d.if-b-le127.true

pub overflow_mul-sum : goal.overflow_mul-sum
overflow_mul-sum c = omega (arith, product_fits c.loop-g.invariant (c.wide-b.result - 128) c.loop-g-test.true (omega (arith, c.wide-b.ensures.1)))

pub overflow_add-sum : goal.overflow_add-sum
overflow_add-sum c = omega (arith, product_fits c.loop-g.invariant (c.wide-b.result - 128) c.loop-g-test.true (omega (arith, c.wide-b.ensures.1)))

pub overflow_mul-scale : goal.overflow_mul-scale
overflow_mul-scale c = omega (arith, weight_fits c.loop-g.invariant c.loop-g-test.true)

pub loop-g-preserved : goal.loop-g-preserved
loop-g-preserved c = next_more c.loop-g.invariant _ c.loop-g-test.true c.if-log-at.false c.wide-b.ensures.0 c.if-b-le127.false c.wide-b.ensures.1
