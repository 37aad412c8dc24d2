use mathlib.Core.Path.{◌≡◌, refl, sym, ap, ◌∙◌}
use native.Mathlib.Omega.{arith}
use Rattle.count.proofs.Repeats.{iterate_none, iterate_more, iterate_still}
use Rattle.scaler.specs.Calls.{pulse}
use Rattle.scaler.proofs.counting.pulse_often.Goals as goal

pub returns-then-admits_none : goal.returns-then-admits_none
returns-then-admits_none g c =
    let f = pulse g.M.Scaler.own c.args.channel.number in
    let deaf = sym c.admits_none.ensures ∙ c.if-admits_none.true in
    c.done-o.ensures ∙ sym (iterate_still f _ (rw deaf refl) c.args.n)

pub loop-init : goal.loop-init
loop-init g c = sym (iterate_none (pulse g.M.Scaler.own c.args.channel.number) _)

pub loop-preserved : goal.loop-preserved
loop-preserved g c =
    let f = pulse g.M.Scaler.own c.args.channel.number in
    c.pulse_once-o.ensures ∙ ap f c.loop.invariant ∙ sym (iterate_more f _ c.loop.counter)

pub returns : goal.returns
returns g c =
    let all : c.loop.counter ≡ c.args.n = omega (arith, c.loop-test.false, c.loop.auto.counter-end) in
    rw (← all, ← c.done-o.ensures) c.loop.invariant
