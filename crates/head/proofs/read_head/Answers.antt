use mathlib.Core.Path.{refl, sym, ◌∙◌}
use native.Mathlib.Omega.{arith}
use Rattle.head.specs.Heads.{head_of}
use Rattle.head.proofs.Turns.{one, fault, ended}
use Rattle.std.proofs.lemmas.Grind.{common_steps}
use borrow.Author.Rules.{rules}
use Rattle.head.proofs.read_head.Goals as goal

pub loop-i-init : goal.loop-i-init
unfolding head_of
loop-i-init c = (refl, refl)

pub returns-in_err-number : goal.returns-in_err-number
returns-in_err-number c = let l = c.loop-i in
    let a = c.args in
    let e = fault a.input.now a.limits.now l.after l.i l.values (omega arith) (omega arith) _ (sym c.read_argument.ensures ∙ c.in_err-number.was) in
    let h = sym e ∙ l.invariant.1 in grind (arith, common_steps, h)

pub loop-i-preserved : goal.loop-i-preserved
loop-i-preserved c = let l = c.loop-i in
    let a = c.args in
    let e = one a.input.now a.limits.now l.after l.i l.values (omega arith) (omega arith) _ (sym c.read_argument.ensures ∙ c.in_ok-number.was) in
    (search rules, e ∙ l.invariant.1)

pub returns : goal.returns
returns c = let l = c.loop-i in
    let a = c.args in
    sym (ended a.input.now a.limits.now l.after l.i l.values (omega (arith, c.min-many.ensures))) ∙ l.invariant.1
