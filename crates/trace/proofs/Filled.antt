-- The numbers of a line put one row behind the other. Assumes nothing.
use Rattle.std.proofs.Common.{◌≡◌, ℕ, zero, suc, ◌+◌, ◌-◌, ◌≤◌, List, [], ◌∷◌, ◌++◌, length, set, replicate, ap, ap₂, ◌∙◌, arith, length-append}
use Rattle.text.specs.Text.{put, after}
use Rattle.text.proofs.Putting.{put_more, put_end, after_fits, length_put}

-- a row put behind another
one_more : (out : List ℕ) (at p p₁ : ℕ) (a b n n₁ : List ℕ) → at + length a + length b ≤ length out
    → (p ≡ at + length a) × (n ≡ put out at a)
    → (p₁ ≡ after n p b) × (n₁ ≡ put n p b)
    → (p₁ ≡ at + length (a ++ b)) × (n₁ ≡ put out at (a ++ b))
one_more out at p p₁ a b n n₁ h before now = (
  now.0
      ∙ ap₂ (λ (o : List ℕ) (q : ℕ). after o q b) before.1 before.0
      ∙ after_fits (put out at a) (at + length a) b (rw (length_put out at a (omega (arith, h))) h)
      ∙ rw (length-append a b) (omega arith),
  now.1 ∙ ap₂ (λ (o : List ℕ) (q : ℕ). put o q b) before.1 before.0 ∙ put_more out at a b h,
)

-- four rows fill a line behind its first number
module _ (entry most : ℕ) (a b c d n₁ n₂ n₃ n₄ : List ℕ) (p₁ p₂ p₃ p₄ : ℕ) where
  pub filled : (zs : List ℕ) → length zs ≡ length a + length b + length c + length d
      → (p₁ ≡ after (entry ∷ zs) 1 a) × (n₁ ≡ put (entry ∷ zs) 1 a)
      → (p₂ ≡ after n₁ p₁ b) × (n₂ ≡ put n₁ p₁ b)
      → (p₃ ≡ after n₂ p₂ c) × (n₃ ≡ put n₂ p₂ c)
      → (p₄ ≡ after n₃ p₃ d) × (n₄ ≡ put n₃ p₃ d)
      → n₄ ≡ (entry ∷ a) ++ b ++ c ++ d
  filled zs h e₁ e₂ e₃ e₄ =
      let o : List ℕ = entry ∷ zs in
      let f₁ : (p₁ ≡ 1 + length a) × (n₁ ≡ put o 1 a) = (e₁.0 ∙ after_fits o 1 a (omega (arith, h)), e₁.1) in
      let f₂ = one_more o 1 p₁ p₂ a b n₁ n₂ (omega (arith, h)) f₁ e₂ in
      let f₃ = one_more o 1 p₂ p₃ (a ++ b) c n₂ n₃ (omega (arith, h, length-append a b)) f₂ e₃ in
      let f₄ = one_more o 1 p₃ p₄ (a ++ b ++ c) d n₃ n₄ (omega (arith, h, length-append a b, length-append (a ++ b) c)) f₃ e₄ in
      f₄.1
      ∙ put_end (entry ∷ []) zs (a ++ b ++ c ++ d) (omega (arith, h, length-append a b, length-append (a ++ b) c, length-append (a ++ b ++ c) d))

-- a line of zeros that has its first number
pub begun : (entry most : ℕ) → 1 ≤ most → set (replicate most 0) 0 entry ≡ entry ∷ replicate (most - 1) 0
begun entry zero h = elim h [ ]
begun entry (suc n) h = let e : n ≡ suc n - 1 = omega arith in ap (λ (k : ℕ). entry ∷ replicate {A = ℕ} k 0) e
