-- The captured words, one after the other. Assumes nothing.
use Rattle.std.proofs.Common.{◌≡◌, ℕ, zero, suc, ◌+◌, ◌*◌, ◌<◌, List, [], ◌∷◌, ◌++◌, length, get_or, take, set, sym, ap, add-one, arith, take-suc-set, w32}
use Rattle.std.specs.Int.{from_le_bytes}
use Rattle.blocks.specs.Words.{word_of, words_from}

-- the library's word of four bytes
pub little_end : (b₀ b₁ b₂ b₃ : ℕ) → from_le_bytes w32 (b₀ ∷ b₁ ∷ b₂ ∷ b₃ ∷ []) ≡ word_of b₀ b₁ b₂ b₃
little_end b₀ b₁ b₂ b₃ = omega arith

-- the word at a place
abbrev pub word_at : List ℕ → ℕ → ℕ
word_at bytes at = word_of (get_or bytes at 0) (get_or bytes (at + 1) 0) (get_or bytes (at + 2) 0) (get_or bytes (at + 3) 0)

-- one word more
pub words_snoc : (n : ℕ) (bytes : List ℕ) (at : ℕ) → words_from (suc n) bytes at ≡ words_from n bytes at ++ (word_at bytes (at + 4 * n) ∷ [])
unfolding words_from
words_snoc zero bytes at = let e : at + 4 * 0 ≡ at = omega arith in rw e
words_snoc (suc n) bytes at =
    let e : at + 4 * suc n ≡ at + 4 + 4 * n = omega arith in
    rw e (ap (λ (ws : List ℕ). word_at bytes at ∷ ws) (words_snoc n bytes (at + 4)))

-- a word is stored behind the first i
pub one_word : (bytes words : List ℕ) (i w : ℕ) → i < length words → w ≡ word_at bytes (4 * i) → take i words ≡ words_from i bytes 0
    → take (i + 1) (set words i w) ≡ words_from (i + 1) bytes 0
one_word bytes words i w h e before =
    let z : 0 + 4 * i ≡ 4 * i = omega arith in
    rw (add-one, take-suc-set words i w h, before, e) (sym (rw z at (words_snoc i bytes 0)))
