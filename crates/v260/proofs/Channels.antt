-- The channels of a joined scale, as a run in the sense of Runs: each comes once, round past 15, and no channel
-- outside clocks one of them. What carries it is plain arithmetic modulo 16. Assumes nothing.
use Prim.Native.Nat.{ℕ, zero, suc, ◌+◌, ◌-◌, ◌%◌, ◌≤◌, ◌<◌}
use mathlib.Core.Path.{◌≡◌, refl, sym, ap, subst, ◌∙◌}
use mathlib.Core.Bool.{true, false, false≢true}
use native.Mathlib.Omega.{arith}
use native.Mathlib.Decide.{dec_lt}
use borrow.Author.Tests.{ne_eqb, eq-eqb}
use lib.Dec.{eqb}
use Rattle.scaler.specs.Held.{path}
use Rattle.scaler.proofs.Runs.{or_true, among, Run}
use Rattle.v260.specs.declared.Switches.{Switches}
use Rattle.v260.specs.Counting.{after, is_joined}
use Rattle.v260.specs.Joined.{Joined, channels}

not_among : (n c x : ℕ) → c < 16 → ((i : ℕ) → i < n → x ≡ (c + i) % 16 → ⊥) → among x (path after n c) ≡ false
unfolding path
not_among zero c x h d = refl
not_among (suc n) c x h d =
    rw (ne_eqb x c (λ e. d 0 (omega arith) (omega arith)))
    (not_among n (after c) x (omega arith) (λ i l e. d (suc i) (omega arith) (omega arith)))

is_among : (n c i : ℕ) → c < 16 → i < n → among ((c + i) % 16) (path after n c) ≡ true
unfolding path
is_among zero c i h l = absurd (omega arith)
is_among (suc n) c zero h l = rw (eq-eqb ((c + 0) % 16) c (omega arith))
is_among (suc n) c (suc i) h l =
    let e : (c + suc i) % 16 ≡ (after c + i) % 16 = omega arith in
    subst
    (λ (x : ℕ). among x (path after (suc n) c) ≡ true)
    (sym e)
    (or_true (eqb ((after c + i) % 16) c) (among ((after c + i) % 16) (path after n (after c))) (is_among n (after c) i (omega arith) (omega arith)))

module _ (switches : Switches) (f k : ℕ) (s : Joined switches f k) where
  -- the channels from the j-th on
  run_from : (n j : ℕ) → j + n ≡ k → Run (λ x. is_joined switches (after x)) after 16 n ((f + j) % 16)
  unfolding Run
  run_from zero j e =
      let g : ((f + j) % 16 + 1) % 16 ≡ (f + suc k) % 16 = omega arith in
      (omega arith, ap (is_joined switches) g ∙ s.ends)
  run_from (suc n) j e =
      let g : ((f + j) % 16 + 1) % 16 ≡ (f + suc j) % 16 = omega arith in
      let m = s.many in (
        omega arith,
        ap (is_joined switches) g ∙ s.joined (suc j) (omega arith) (omega arith),
        not_among (suc n) (after ((f + j) % 16)) ((f + j) % 16) (omega arith) (λ i l q. omega arith),
        subst (λ (x : ℕ). Run (λ x. is_joined switches (after x)) after 16 n x) (sym g) (run_from n (suc j) (omega arith)),
      )

  pub scale_run : Run (λ x. is_joined switches (after x)) after 16 k f
  scale_run =
      let z : (f + 0) % 16 ≡ f = (let h = s.first in omega arith) in
      subst (λ (x : ℕ). Run (λ x. is_joined switches (after x)) after 16 k x) z (run_from k 0 (omega arith))

  -- how far behind the first channel a channel lies, round past 15
  away : ℕ → ℕ
  away x = (x + (16 - f)) % 16

  -- a channel that lies behind the scale is none of it
  behind : (x : ℕ) → x < 16 → k < away x → among x (channels f k) ≡ false
  unfolding away
  behind x h l = let g = s.first in let m = s.many in not_among (suc k) f x g (λ i b e. omega arith)

  -- a channel within its length is one of it
  within : (x : ℕ) → x < 16 → away x ≤ k → among x (channels f k) ≡ true
  unfolding away
  within x h l =
      let g = s.first in
      let e : (f + (x + (16 - f)) % 16) % 16 ≡ x = omega arith in
      subst (λ (y : ℕ). among y (channels f k) ≡ true) e (is_among (suc k) f ((x + (16 - f)) % 16) g (omega arith))

  -- no channel outside clocks one of it
  pub scale_shut : (x : ℕ) → x < 16 → among x (channels f k) ≡ false → is_joined switches (after x) ≡ true
      → (after x < 16) × (among (after x) (channels f k) ≡ false)
  unfolding away
  scale_shut x h o j = (omega arith, go (dec_lt k (away x)))
    where
      -- the last channel before the first one would be joined to it
      last : k < away x → Dec (away x < 15) → among (after x) (channels f k) ≡ false
      last l (yes b) = let g = s.first in behind (after x) (omega arith) (omega arith)
      last l (no b) =
          let g = s.first in
          let e : after x ≡ f = omega arith in
          absurd (false≢true (sym s.own_input ∙ sym (ap (is_joined switches) e) ∙ j))

      go : Dec (k < away x) → among (after x) (channels f k) ≡ false
      go (no l) = absurd (false≢true (sym o ∙ within x h (omega arith)))
      go (yes l) = last l (dec_lt (away x) 15)

  -- another channel that is not joined to the one before it is none of it
  pub scale_other : (x : ℕ) → x < 16 → (x ≡ f → ⊥) → is_joined switches x ≡ false → among x (channels f k) ≡ false
  unfolding away
  scale_other x h n j = go (dec_lt k (away x))
    where
      go : Dec (k < away x) → among x (channels f k) ≡ false
      go (yes l) = behind x h l
      go (no l) =
          let g = s.first in
          let e : (f + away x) % 16 ≡ x = omega arith in
          absurd (false≢true (sym j ∙ sym (ap (is_joined switches) e) ∙ s.joined (away x) (omega (arith, n)) (omega arith)))
