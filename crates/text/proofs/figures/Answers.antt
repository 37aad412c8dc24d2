-- One less than the figures is the greatest power of ten that is not above the number; 0 has one. Assumes nothing.
use Rattle.std.proofs.Common.{◌≡◌, ℕ, ◌+◌, ◌*◌, ◌^◌, ◌<◌, ◌≤◌, Option, None, Some, IfNone, IfSome, length, arith}
use Rattle.std.specs.Option.{unwrap_or}
use Rattle.text.specs.Text.{decimal}
use Rattle.text.proofs.Decimal.{power_digits}
use Rattle.text.proofs.figures.Goals as goal

one_more : (n : ℕ) (k : Option ℕ) → IfNone k (n ≡ 0) → IfSome k (λ k. 10 ^ k ≤ n) → IfSome k (λ k. n < 10 * 10 ^ k) → IfSome k (λ k. k < 20)
    → (unwrap_or k 0 + 1 ≡ length (decimal n)) × (unwrap_or k 0 < 20)
one_more n None none least below bound = (power_digits 0 n (omega arith) (omega arith) (omega arith), omega arith)
one_more n (Some k) none least below bound = (power_digits k n bound (omega arith) below, bound)

pub returns : goal.returns
returns c = let k = c.checked_ilog10 in
    let e = one_more c.args.n k.result k.ensures.none k.ensures.power_le k.ensures.next_power_gt k.ensures.bound in
    omega (arith, e.0, e.1)
