-- A text that is put piece by piece: putting what is left gives the whole. And a line's pieces: a number and its
-- mark. Assumes nothing.
use Prim.Native.Nat.{ℕ, suc, ◌+◌, ◌-◌, ◌≤◌, ◌<◌}
use mathlib.Core.Path.{◌≡◌, refl, sym, ap, ap₂, ◌∙◌}
use mathlib.Core.Bool.{cond}
use mathlib.Core.List.{List, [], ◌∷◌, ◌++◌}
use native.Mathlib.Numerals.{add-one}
use native.Mathlib.Omega.{arith}
use borrow.Author.Tests.{lt-ltb}
use lib.Dec.{ltb}
use lib.ListN.{length, get_or, drop, length-append, length-drop}
use lib.Seq.{drop-cons}
use Rattle.text.specs.Line.{line, mark}
use Rattle.text.specs.Text.{put, after, decimal}
use Rattle.text.proofs.Putting.{put_more, put_nil, length_put, after_fits}

-- the bytes ws are put into out₀ at `at`; out is the buffer so far, p the next place, todo what is left to put
pub record Leaves (ws out₀ : List ℕ) (at : ℕ) (out : List ℕ) (p : ℕ) (todo : List ℕ) : Type 0 where
  pub len : length out ≡ length out₀
  pub room : p + length todo ≡ at + length ws
  pub fits : at + length ws ≤ length out₀
  pub whole : put out p todo ≡ put out₀ at ws

pub start : (ws out : List ℕ) (at : ℕ) → at + length ws ≤ length out → Leaves ws out at out at ws
start ws out at h = record { len = refl; room = refl; fits = h; whole = refl }

module _ {ws out₀ : List ℕ} {at : ℕ} {out : List ℕ} {p : ℕ} where
  -- a piece is put: r is the place after it, out₁ the buffer with it
  pub piece : (a todo : List ℕ) (r : ℕ) (out₁ : List ℕ) → Leaves ws out₀ at out p (a ++ todo) → r ≡ after out p a → out₁ ≡ put out p a
      → Leaves ws out₀ at out₁ r todo
  piece a todo r out₁ l e f =
      let n : length (a ++ todo) ≡ length a + length todo = length-append a todo in
      let h : p + length a ≤ length out = omega (arith, l.len, l.room, l.fits) in
      let g : r ≡ p + length a = e ∙ after_fits out p a h in
      record {
        len = ap length f ∙ length_put out p a h ∙ l.len;
        room = omega (arith, l.room);
        fits = l.fits;
        whole = ap₂ (λ (o : List ℕ) (k : ℕ). put o k todo) f g ∙ put_more out p a todo (omega (arith, l.len, l.room, l.fits)) ∙ l.whole;
      }

  pub end_place : Leaves ws out₀ at out p [] → p ≡ at + length ws
  end_place l = omega (arith, l.room)

  pub end_whole : Leaves ws out₀ at out p [] → out ≡ put out₀ at ws
  end_whole l = sym (put_nil out p (omega (arith, l.len, l.room, l.fits))) ∙ l.whole

mark_test : (ns : List ℕ) → mark ns ≡ cond (ltb 0 (length ns)) 32 10
mark_test [] = refl
mark_test (n ∷ ns) = sym (rw (lt-ltb 0 (suc (length ns)) (omega arith)))

module _ (ns : List ℕ) (i : ℕ) where
  -- the mark that follows number i
  pub mark_left : cond (ltb 0 (length ns - (i + 1))) 32 10 ≡ mark (drop (i + 1) ns)
  mark_left = sym (mark_test (drop (i + 1) ns) ∙ rw length-drop)

  pub line_cons : i < length ns → line (drop i ns) ≡ decimal (get_or ns i 0) ++ mark (drop (i + 1) ns) ∷ line (drop (i + 1) ns)
  unfolding line
  line_cons h = rw (drop-cons ns i 0 h, add-one)
