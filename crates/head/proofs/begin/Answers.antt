use mathlib.Core.Path.{refl, sym, ap, ◌∙◌}
use mathlib.Core.Bool.{false≢true}
use borrow.Author.Tests.{not-true, not-false}
use lib.ListN.{length}
use Rattle.stdio.specs.declared.Listing.{Listing}
use Rattle.head.proofs.Begins.{Grown, grows, falls}
use borrow.Author.Rules.{rules}
use Rattle.head.proofs.begin.Goals as goal

pub loop-l-init : goal.loop-l-init
loop-l-init c = rw c.begin-l.ensures (refl, refl, search rules)

pub loop-l-smaller : goal.loop-l-smaller
loop-l-smaller c = let t = c in
    let l = t.loop-l in
    let m = (let h : let l = c.loop-l in
    Grown (length l.buf) l.l.have c.read_on-l.result = let t = c in
    let l = t.loop-l in
    let r = c.read_on-l in
    grows l.buf r.new.buf l.l r.result l.invariant.1 t.loop-l-test.true (rw l.invariant.0 l.invariant.2) r.ensures in h) in
    let r = c.read_on-l.result in
    rw (t.loop-l-test.true, not-true l.l.ended c.if-not-l.true) (
    falls _ l.l.have r.have r.more r.ended m.2 (rw (sym l.invariant.0) m.1) (λ e. m.3 (sym (ap (λ (k : Listing). k.more) m.0) ∙ e)))

pub loop-l-preserved : goal.loop-l-preserved
loop-l-preserved c = let l = c.loop-l in
    let m = (let h : let l = c.loop-l in
    Grown (length l.buf) l.l.have c.read_on-l.result = let t = c in
    let l = t.loop-l in
    let r = c.read_on-l in
    grows l.buf r.new.buf l.l r.result l.invariant.1 t.loop-l-test.true (rw l.invariant.0 l.invariant.2) r.ensures in h) in
    (search rules, m.0, rw (sym l.invariant.0) m.1)

pub returns-else-is_cut : goal.returns-else-is_cut
returns-else-is_cut c = let l = c.loop-l in
    (l.invariant.1, rw l.invariant.0 l.invariant.2, λ m e. sym c.is_cut.ensures ∙ c.if-is_cut.false)

pub returns-else-not-l : goal.returns-else-not-l
returns-else-not-l c = let l = c.loop-l in
    (l.invariant.1, rw l.invariant.0 l.invariant.2, λ m e. absurd (false≢true (sym e ∙ not-false l.l.ended c.if-not-l.false)))

pub returns-after-loop-l : goal.returns-after-loop-l
returns-after-loop-l c = let l = c.loop-l in
    (l.invariant.1, rw l.invariant.0 l.invariant.2, λ m e. absurd (false≢true (sym c.loop-l-test.false ∙ m)))
