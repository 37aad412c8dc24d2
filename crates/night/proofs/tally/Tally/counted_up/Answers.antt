-- The last byte alone is one more where the last digit does not go round, and the last two 247 more where that alone
-- does. Assumes nothing.
use Rattle.std.proofs.Common.{ℕ, ◌+◌, ◌/◌, ◌%◌, sym, refl, ap, ◌∙◌, arith, rules}
use Rattle.night.proofs.Tallying.{word_below, counted_one, counted_two}
use Rattle.night.proofs.tally.Tally.counted_up.Goals as goal

pub overflow_add-result : goal.overflow_add-result
overflow_add-result c = omega (arith, c.args.self.right.0, word_below c.args.self.number)

pub invariant_of-result : goal.invariant_of-result
invariant_of-result c =
    let t = c.args.self in
    let k = counted_one t.number _ (search rules) refl c.if-number-eq0.false (λ x. c.if-self-ne57.true (ap (λ (y : ℕ). y % 256) t.right.0 ∙ x)) in
    record { right = (ap (λ (x : ℕ). x + 1) t.right.0 ∙ sym k.0, t.right.1 ∙ sym k.1) }

pub overflow_add-result-2 : goal.overflow_add-result-2
overflow_add-result-2 c = omega (arith, c.args.self.right.0, word_below c.args.self.number)

pub invariant_of-result-2 : goal.invariant_of-result-2
invariant_of-result-2 c =
    let t = c.args.self in
    let k = counted_two t.number _ (search rules) refl c.if-number-eq0.false
    (sym (ap (λ (y : ℕ). y % 256) t.right.0) ∙ c.if-self-ne57.false)
    (omega (arith, t.right.1, c.if-self-lt2.false))
    (λ x. c.if-self-eq57.false (ap (λ (y : ℕ). y / 256 % 256) t.right.0 ∙ x)) in
    record { right = (ap (λ (x : ℕ). x + 247) t.right.0 ∙ sym k.0, t.right.1 ∙ sym k.1) }
