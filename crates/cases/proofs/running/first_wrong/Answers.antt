use Rattle.std.proofs.Common.{◌≡◌, ℕ, ◌+◌, Some, length, sym, ap, ◌∙◌, arith}
use Rattle.meb.specs.Ring.{lent}
use Rattle.cases.proofs.Steps.{one_wrong, one_right, all_right, not_admitted}
use Rattle.cases.proofs.running.first_wrong.Goals as goal

pub returns-then-not-is_expected : goal.returns-then-not-is_expected
returns-then-not-is_expected c = let a = c.args.c in let l = c.loop-k in
    sym
    (one_wrong a.pulses l.k l.b (lent l.memory) a.lines.now _ c.loop-k-test.true c.turn-reply.result c.turn-reply.ensures.reply
    (sym c.is_expected.ensures ∙ c.if-not-is_expected.true))
    ∙ l.invariant
    ∙ rw (c.begin-held.ensures, c.filled.ensures)

pub loop-k-preserved : goal.loop-k-preserved
loop-k-preserved c = let a = c.args.c in let l = c.loop-k in
    rw (c.turn-reply.ensures.after, c.turn-reply.ensures.left)
    (one_right a.pulses l.k l.b (lent l.memory) a.lines.now _ c.loop-k-test.true c.turn-reply.result c.turn-reply.ensures.reply
    (sym c.is_expected.ensures ∙ c.if-not-is_expected.false)
    ∙ l.invariant)

pub returns-then-b-c : goal.returns-then-b-c
returns-then-b-c c = let a = c.args.c in let l = c.loop-k in
    sym (all_right a.pulses l.k l.b (lent l.memory) a.lines.now (omega (arith, c.loop-k-test.false)) c.if-b-c.true)
    ∙ l.invariant
    ∙ rw (c.begin-held.ensures, c.filled.ensures)

pub returns-else-b-c : goal.returns-else-b-c
returns-else-b-c c = let a = c.args.c in let l = c.loop-k in
    let over : length a.lines.now ≡ l.k = omega (arith, c.loop-k-test.false, l.auto.k-end) in
    ap (λ (k : ℕ). Some (k + 1)) over
    ∙ sym (not_admitted a.pulses l.k l.b (lent l.memory) a.lines.now (omega (arith, over)) c.if-b-c.false)
    ∙ l.invariant
    ∙ rw (c.begin-held.ensures, c.filled.ensures)
