use Rattle.std.proofs.Common.{sym, ◌∙◌, arith}
use Rattle.text.proofs.Decimal.{filled_start, filled_turn, filled_whole}
use Rattle.text.proofs.write_digits.Goals as goal

pub loop-i-init : goal.loop-i-init
loop-i-init c = let a = c.args in (omega arith, filled_start a.out.now a.at a.end a.n c.requires.0 c.requires.1)

pub loop-i-preserved : goal.loop-i-preserved
loop-i-preserved c = let l = c.loop-i in
    (omega arith, filled_turn l.out c.args.at l.i l.rest (omega arith) (omega arith) ∙ l.invariant.1)

pub returns : goal.returns
returns c = let l = c.loop-i in sym (filled_whole l.out c.args.at l.i l.rest (omega arith)) ∙ l.invariant.1
