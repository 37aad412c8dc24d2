-- A row that has the offset gives what the definition gives; one that has not leaves it to those behind it.
use Rattle.std.proofs.Common.{sym, ◌∙◌}
use native.Mathlib.Omega.{arith}
use native.Mathlib.Numerals.{unary_clauses}
use Rattle.bus.proofs.Look.{here, behind, ended}
use Rattle.bus.proofs.table.look_up.Goals as goal

pub returns-then-has : goal.returns-then-has
returns-then-has g c =
    let l = c.loop-row in
    c.reached.ensures ∙ sym (here c.args.rows.now l.row-index c.args.a c.row-item.result c.loop-row-test.true c.row-item.is (sym c.has.ensures ∙ c.if-has.true)) ∙ l.invariant

pub loop-row-preserved : goal.loop-row-preserved
loop-row-preserved g c =
    let l = c.loop-row in
    simp unary_clauses (sym (behind c.args.rows.now l.row-index c.args.a c.row-item.result c.loop-row-test.true c.row-item.is (sym c.has.ensures ∙ c.if-has.false)) ∙ l.invariant)

pub returns : goal.returns
returns g c =
    let h = c.loop-row-test.false in
    sym (ended c.args.rows.now c.loop-row.row-index c.args.a (omega arith)) ∙ c.loop-row.invariant
