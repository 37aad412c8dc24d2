-- The values that are given, as far as there is room, and zeros behind them. Assumes nothing.
use Rattle.std.proofs.Common.{◌≡◌, ℕ, ◌-◌, List, ◌++◌, length, min, take, drop, replicate, ap, ap₂, ◌∙◌, arith}
use Rattle.std.proofs.lemmas.List.{drop-replicate, take_min}
use Rattle.cases.proofs.running.filled.Goals as goal

returns_for : (s : List ℕ) (n : ℕ) → n ≡ min (length s) 40 → take n s ++ drop n (replicate 40 0) ≡ take 40 s ++ replicate (40 - length s) 0
returns_for s n e =
    ap₂
    (λ (a b : List ℕ). a ++ b)
    (let h : n ≡ min 40 (length s) = omega (arith, e) in ap (λ (k : ℕ). take k s) h ∙ take_min 40 s)
    (let h : 40 - n ≡ 40 - length s = omega (arith, e) in drop-replicate n 40 0 ∙ ap (λ (k : ℕ). replicate k 0) h)

pub returns : goal.returns
returns c =
    let n = c.min-given.result in
    ap (λ (l : List ℕ). l ++ drop n (replicate 40 0)) (c.copy_from_slice.ensures.after) ∙ returns_for c.args.start.now n c.min-given.ensures
