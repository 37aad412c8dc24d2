use mathlib.Core.Path.{sym, ◌∙◌}
use Rattle.scaler.proofs.Still.{rise_still}
use Rattle.scaler.proofs.counting.any_rose.Goals.{else-before-k-via-then-before-k+else-did_rise, else-before-k-via-else-before-k}
use Rattle.scaler.proofs.Any.{any_start, any_found, any_missed, any_over}
use borrow.Author.Rules.{rules}
use Rattle.scaler.proofs.counting.any_rose.Goals as goal

pub loop-k-init : goal.loop-k-init
loop-k-init g c = any_start _ 16

pub returns-then-did_rise : goal.returns-then-did_rise
returns-then-did_rise g c = sym (any_found c.loop-k.invariant (search rules) (rw (← c.watched.ensures) (sym c.did_rise.ensures ∙ c.if-did_rise.true)))

pub loop-k-preserved : goal.loop-k-preserved
loop-k-preserved g c =
    elim c.else-before-k.branch [
      | else-before-k-via-then-before-k+else-did_rise w ↦ any_missed c.loop-k.invariant (search rules) (rw (← w.watched.ensures) (sym w.did_rise.ensures ∙ w.if-did_rise.false))
      | else-before-k-via-else-before-k w ↦ any_missed c.loop-k.invariant (search rules) (rise_still (g.M.Scaler.own.watched c.args.s c.loop-k.k) w.if-before-k.false)
    ]

pub returns : goal.returns
returns g c = sym (any_over c.loop-k.invariant (search rules))
