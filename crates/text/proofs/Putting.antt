-- Bytes put into a buffer where they fit: the buffer's length, and two puts that are one. Assumes nothing.
use Prim.Native.Nat.{ℕ, ◌+◌, ◌-◌, ◌≤◌, ◌<◌}
use mathlib.Core.Path.{◌≡◌, refl, sym, ap, ap₂, ◌∙◌}
use mathlib.Core.List.{List, [], ◌++◌, append_assoc, append-nil}
use native.Mathlib.Numerals.{add-one}
use native.Mathlib.Omega.{arith}
use borrow.Author.Tests.{le-leb}
use lib.ListN.{length, get_or, set, take, drop, length-append, length-drop, drop_of_length-le}
use lib.Seq.{sets, sets-eq, length-take-le, take_at, drop-append-add, drop-drop, paste, paste-zero, paste-suc}
use Rattle.text.specs.Text.{put, after}

module _ (out : List ℕ) (at : ℕ) (ws : List ℕ) where
  -- the bytes fit
  module _ (h : at + length ws ≤ length out) where
    pub put_fits : put out at ws ≡ take at out ++ ws ++ drop (at + length ws) out
    unfolding put
    put_fits = rw (le-leb (at + length ws) (length out) h)

    pub after_fits : after out at ws ≡ at + length ws
    unfolding after
    after_fits = rw (le-leb (at + length ws) (length out) h)

    pub put_sets : put out at ws ≡ sets out at ws
    put_sets = put_fits ∙ sym (sets-eq ws out at h)

    pub head_length : length (take at out ++ ws) ≡ at + length ws
    head_length = length-append (take at out) ws ∙ ap (λ (n : ℕ). n + length ws) (length-take-le at out (omega arith))

    pub length_put : length (put out at ws) ≡ length out
    length_put = rw (put_fits, length-append, head_length, length-drop) (omega arith)

-- one more of those that are copied there
pub paste_one : (out₀ : List ℕ) (at : ℕ) (ws out : List ℕ) (i v : ℕ) → at + i < length out₀ → i < length ws → v ≡ get_or ws i 0
    → out ≡ paste out₀ at ws i
    → set out (at + i) v ≡ paste out₀ at ws (i + 1)
paste_one out₀ at ws out i v h j e before = rw (before, e, add-one) (paste-suc out₀ at ws i 0 h j)

pub put_nil : (out : List ℕ) (at : ℕ) → at ≤ length out → put out at [] ≡ out
put_nil out at h = put_fits out at [] (omega arith) ∙ sym (paste-zero out at [])

-- what is put behind a put is put with it
pub put_more : (out : List ℕ) (at : ℕ) (a b : List ℕ) → at + length a + length b ≤ length out
    → put (put out at a) (at + length a) b ≡ put out at (a ++ b)
put_more out at a b h =
    let h₁ : at + length a ≤ length out = omega arith in
    let p : List ℕ = take at out ++ a in
    let rest : List ℕ = drop (at + length a) out in
    let l : length p ≡ at + length a = head_length out at a h₁ in
    let e : put out at a ≡ p ++ rest = put_fits out at a h₁ in
    let m : at + length a + length b ≡ at + length (a ++ b) = simp length-append (omega arith) in
    let front : take (at + length a) (put out at a) ≡ p = ap (take (at + length a)) e ∙ take_at p rest (at + length a) l in
    let back : drop (at + length a + length b) (put out at a) ≡ drop (at + length a + length b) out =
    ap (drop (at + length a + length b)) e
    ∙ ap (λ (n : ℕ). drop (n + length b) (p ++ rest)) (sym l)
    ∙ drop-append-add p rest (length b)
    ∙ drop-drop (length b) (at + length a) out in
    put_fits (put out at a) (at + length a) b (rw (length_put out at a h₁) h)
    ∙ ap₂ (λ (x y : List ℕ). x ++ b ++ y) front back
    ∙ ap₂ (λ (x : List ℕ) (n : ℕ). x ++ drop n out) (append_assoc (take at out) a b) m
    ∙ sym (put_fits out at (a ++ b) (omega arith))

-- what is put over fewer bytes leaves none of them
pub put_again : (out : List ℕ) (at : ℕ) (a b : List ℕ) → length a ≤ length b → at + length b ≤ length out → put (put out at a) at b ≡ put out at b
put_again out at a b h k =
    let h₁ : at + length a ≤ length out = omega arith in
    let p : List ℕ = take at out ++ a in
    let rest : List ℕ = drop (at + length a) out in
    let l : length p ≡ at + length a = head_length out at a h₁ in
    let t : length (take at out) ≡ at = length-take-le at out (omega arith) in
    let e : put out at a ≡ p ++ rest = put_fits out at a h₁ in
    let m : at + length b ≡ length p + (length b - length a) = omega arith in
    let n : at + length a + (length b - length a) ≡ at + length b = omega arith in
    let front : take at (put out at a) ≡ take at out =
    ap (take at) (e ∙ append_assoc (take at out) a rest) ∙ take_at (take at out) (a ++ rest) at t in
    let back : drop (at + length b) (put out at a) ≡ drop (at + length b) out =
    ap₂ drop m e ∙ drop-append-add p rest (length b - length a) ∙ drop-drop (length b - length a) (at + length a) out ∙ ap (λ (j : ℕ). drop j out) n in
    put_fits (put out at a) at b (rw (length_put out at a h₁) k)
    ∙ ap₂ (λ (x y : List ℕ). x ++ b ++ y) front back
    ∙ sym (put_fits out at b k)

-- what is put behind a front fills the rest
pub put_end : (front rest ws : List ℕ) → length rest ≡ length ws → put (front ++ rest) (length front) ws ≡ front ++ ws
put_end front rest ws h =
    let n : length (front ++ rest) ≡ length front + length rest = length-append front rest in
    put_fits (front ++ rest) (length front) ws (omega (arith, n))
    ∙ ap₂ (λ (x y : List ℕ). x ++ ws ++ y) (take_at front rest (length front) refl) (drop-append-add front rest (length ws) ∙ drop_of_length-le rest {i = length ws} (omega arith))
    ∙ append-nil (front ++ ws)
