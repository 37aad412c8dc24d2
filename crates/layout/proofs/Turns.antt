-- One turn of a loop over the enabled channels and the data: one of each, and what is left of both. Assumes nothing.
use mathlib.Core.Path.{◌≡◌}
use mathlib.Core.Bool.{Bool}
use mathlib.Core.List.{List, [], ◌∷◌}
use mathlib.Core.Logic.{◌⊎◌, inl, inr}
use Prim.Native.Nat.{ℕ, zero, suc, ◌+◌, ◌/◌, ◌%◌, ◌≤◌, ◌<◌}
use native.Mathlib.Numerals.{add-one}
use native.Mathlib.Omega.{arith}
use lib.ListN.{length, get_or, set, length-set}
use lib.Seq.{sets}
use Rattle.layout.specs.Layout.{datum_of, data_of}
use Rattle.layout.specs.Length.{channel_if, enabled_from, enabled_channels}

-- f of the channels and of the words that are left is the whole, and there is a word for each channel
pub record Left {A : Type 0} (f : List ℕ → List ℕ → A) (whole : A) (ks ws : List ℕ) : Type 0 where
  pub same : f ks ws ≡ whole
  pub room : length ks ≤ length ws

-- a loop over both has ended: nothing is left of the one, or of the other
abbrev pub Ended : {S T : Type 0} → (S → Type 0) → (T → Type 0) → List ℕ → List ℕ → Type 0
Ended {S} {T} P Q ks ws = ((u : S) × ((ks ≡ []) × P u)) ⊎ ((v : T) × ((length ws ≡ 0) × Q v))

module _ {A : Type 0} {f : List ℕ → List ℕ → A} {whole : A} {ks ws : List ℕ} (e : Left f whole ks ws) where
  -- k and w are next, and these are behind them
  module _ {k w : ℕ} {others rest : List ℕ} (p : (ks ≡ k ∷ others) × (ws ≡ w ∷ rest)) where
    pub left_turn : f (k ∷ others) (w ∷ rest) ≡ whole
    left_turn = rw (p.0, p.1) at e.same

    pub left_room : length others ≤ length rest
    left_room = let h : length (k ∷ others) ≤ length (w ∷ rest) = rw (p.0, p.1) at e.room in omega arith

  pub left_over : {S T : Type 0} {P : S → Type 0} {Q : T → Type 0} → Ended P Q ks ws → f [] ws ≡ whole
  left_over (inl x) = rw x.1.0 at e.same
  left_over (inr y) = go ks e.same e.room
    where
      go : (js : List ℕ) → f js ws ≡ whole → length js ≤ length ws → f [] ws ≡ whole
      go [] s l = s
      go (j ∷ js) s l = absurd (omega (arith, y.1.0))

-- ---- writing: the data of the channels left, stored from `at` on, give the whole
pub record Putting (short : Bool) (counts whole ws : List ℕ) (at : ℕ) (ks : List ℕ) : Type 0 where
  pub stored : sets ws at (data_of short counts ks) ≡ whole
  pub fits : at + length ks ≤ length ws

module _ {short : Bool} {counts whole ws : List ℕ} {at : ℕ} {ks : List ℕ} (e : Putting short counts whole ws at ks) where
  module _ {k : ℕ} {others : List ℕ} (p : ks ≡ k ∷ others) where
    pub put_turn : Putting short counts whole (set ws at (datum_of short k (get_or counts k 0))) (at + 1) others
    put_turn = let h : at + length (k ∷ others) ≤ length ws = rw p at e.fits in
        record { stored = rw add-one (rw p at e.stored); fits = rw length-set (omega arith) }

  pub put_over : ks ≡ [] → ws ≡ whole
  put_over z = rw z at e.stored

-- ---- the first of the enabled channels, as each of them, is one of the 32
first_from : (d k m j : ℕ) (js : List ℕ) → enabled_from d k m ≡ j ∷ js → j < k + d
unfolding enabled_from
first_from zero k m j js e = absurd (cc)
first_from (suc d) k m j js e = go (m % 2) e (first_from d (suc k) (m / 2) j js)
  where
    go : (b : ℕ) → channel_if b k (enabled_from d (suc k) (m / 2)) ≡ j ∷ js → (enabled_from d (suc k) (m / 2) ≡ j ∷ js → j < suc k + d) → j < k + suc d
    go zero f ih = let h : j < suc k + d = ih f in omega arith
    go (suc b) f ih = let h : k ≡ j = cc in omega arith

pub channel_below : (m j : ℕ) (js : List ℕ) → enabled_channels m ≡ j ∷ js → j < 32
channel_below m j js e = first_from 32 0 m j js e
