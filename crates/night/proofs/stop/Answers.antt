-- The three ways in which a run stops, by its two tests; what is put is nothing or the line of the fault. Assumes
-- nothing.
use Rattle.std.proofs.Common.{[], sym, ◌∙◌, arith, eq-eqb, ne_eqb}
use Rattle.meb.specs.Ring.{lent}
use Rattle.night.specs.declared.Next.TheVariants.{Bytes, Nothing}
use Rattle.night.proofs.Going.{nothing_put, fault_put}
use Rattle.night.proofs.stop.Goals as goal

pub returns-then-wants_bytes : goal.returns-then-wants_bytes
returns-then-wants_bytes c = let a = c.args in
    let e = sym c.wants_bytes.ensures ∙ c.if-wants_bytes.true in
    let p = nothing_put a.used a.at a.night Bytes (lent []) a.out.now (omega arith) in
    rw e (c.here.ensures ∙ p.0, p.1)

pub returns-then-rest-eq0 : goal.returns-then-rest-eq0
returns-then-rest-eq0 c = let a = c.args in
    let e = sym c.wants_bytes.ensures ∙ c.if-wants_bytes.false in
    let p = nothing_put a.used a.at a.night Nothing (lent []) a.out.now (omega arith) in
    rw (e, eq-eqb _ _ c.if-rest-eq0.true) (c.here-then-rest-eq0.ensures ∙ p.0, p.1)

pub returns : goal.returns
returns c = let f = c in
    let b = f in
    let a = c.args in
    let e = sym b.wants_bytes.ensures ∙ b.if-wants_bytes.false in
    let k = f.number-number.ensures in
    let p = fault_put a.used a.at f.number-number.result a.night.place a.night (lent []) a.out.now f.put_fault-end.new.out f.put_fault-end.result (omega arith) f.put_fault-end.ensures.0 f.put_fault-end.ensures.1 in
    rw (e, ne_eqb _ _ b.if-rest-eq0.false, ← k) (c.here-2.ensures ∙ p.0, p.1)
