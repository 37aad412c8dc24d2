-- The data of an event and the counts in them, channel by channel as the mask is halved: what the definitions give
-- over the list of the enabled channels. Both round trips are inductions over these. Assumes nothing.
use mathlib.Core.Path.{◌≡◌, refl, ap, ap₂, ◌∙◌}
use mathlib.Core.Bool.{Bool}
use mathlib.Core.List.{List, [], ◌∷◌, ◌++◌}
use Prim.Native.Nat.{ℕ, zero, suc, ◌/◌, ◌%◌, ◌≤◌}
use native.Mathlib.Numerals.{add-one}
use native.Mathlib.Omega.{arith}
use lib.ListN.{length, replicate, length-append}
use lib.Seq.{append_snoc, set_at, get_or_at}
use Rattle.layout.specs.declared.Settings.{Settings}
use Rattle.layout.specs.Layout.{datum_of, data_of}
use Rattle.layout.specs.Length.{channel_if, enabled_from}
use Rattle.layout.specs.Reader.{count_in, counts_read}

-- settings, so that a proof can go by cases on them
abbrev pub settings : Bool → Bool → ℕ → Settings
settings header short enable = record { header = header; short = short; enable = enable }

-- the data of channels k, k + 1, .. with these counts
unfoldable pub data_from : Bool → ℕ → ℕ → List ℕ → List ℕ
data_from short k m [] = []
data_from short k m (c ∷ cs) = channel_if (m % 2) (datum_of short k c) (data_from short (suc k) (m / 2) cs)

-- the count of the next channel, by its bit, and those of the others
abbrev pub count_first : ℕ → Bool → (List ℕ → List ℕ) → List ℕ → List ℕ
count_first zero short others ws = 0 ∷ others ws
count_first (suc b) short others [] = 0 ∷ others []
count_first (suc b) short others (w ∷ ws) = count_in short w ∷ others ws

-- the counts of d channels
unfoldable pub counts_from : ℕ → Bool → ℕ → List ℕ → List ℕ
counts_from zero short m ws = []
counts_from (suc d) short m ws = count_first (m % 2) short (counts_from d short (m / 2)) ws

pub length_counts : (d : ℕ) (short : Bool) (m : ℕ) (ws : List ℕ) → length (counts_from d short m ws) ≡ d
unfolding counts_from
length_counts zero short m ws = refl
length_counts (suc d) short m ws = go (m % 2) ws (λ us. length_counts d short (m / 2) us)
  where
    go : (b : ℕ) (us : List ℕ) → ((vs : List ℕ) → length (counts_from d short (m / 2) vs) ≡ d) → length (count_first b short (counts_from d short (m / 2)) us) ≡ suc d
    go zero us ih = ap suc (ih us)
    go (suc b) [] ih = ap suc (ih [])
    go (suc b) (w ∷ us) ih = ap suc (ih us)

length_one_more : (pre : List ℕ) (c k : ℕ) → length pre ≡ k → length (pre ++ (c ∷ [])) ≡ suc k
length_one_more pre c k e = length-append pre (c ∷ []) ∙ add-one (length pre) ∙ ap suc e

-- the data over the list of channels; `pre` are the counts of the channels before k
pub data_from_lem : (short : Bool) (k m : ℕ) (pre cs : List ℕ) → length pre ≡ k → data_of short (pre ++ cs) (enabled_from (length cs) k m) ≡ data_from short k m cs
unfolding enabled_from data_from
data_from_lem short k m pre [] e = refl
data_from_lem short k m pre (c ∷ cs) e = go (m % 2) (rw (append_snoc pre c cs) at (data_from_lem short (suc k) (m / 2) (pre ++ (c ∷ [])) cs (length_one_more pre c k e)))
  where
    go : (b : ℕ) → data_of short (pre ++ c ∷ cs) (enabled_from (length cs) (suc k) (m / 2)) ≡ data_from short (suc k) (m / 2) cs
        → data_of short (pre ++ c ∷ cs) (channel_if b k (enabled_from (length cs) (suc k) (m / 2))) ≡ channel_if b (datum_of short k c) (data_from short (suc k) (m / 2) cs)
    go zero ih = ih
    go (suc b) ih = ap₂ (λ (x : ℕ) (xs : List ℕ). datum_of short k x ∷ xs) (get_or_at pre c cs 0 k e) ih

-- the counts over the list of channels; `pre` are the counts of the channels before k
pub counts_from_lem : (short : Bool) (d k m : ℕ) (pre ws : List ℕ) → length pre ≡ k → length (enabled_from d k m) ≤ length ws
    → counts_read short (enabled_from d k m) ws (pre ++ replicate d 0) ≡ pre ++ counts_from d short m ws
unfolding enabled_from counts_read counts_from
counts_from_lem short zero k m pre ws e l = refl
counts_from_lem short (suc d) k m pre ws e l =
    go (m % 2) ws l (λ c us r. rw (append_snoc pre c (replicate d 0), append_snoc pre c (counts_from d short (m / 2) us)) at (counts_from_lem short d (suc k) (m / 2) (pre ++ (c ∷ [])) us (length_one_more pre c k e) r))
  where
    go : (b : ℕ) (us : List ℕ) → length (channel_if b k (enabled_from d (suc k) (m / 2))) ≤ length us
        → ((c : ℕ) (vs : List ℕ) → length (enabled_from d (suc k) (m / 2)) ≤ length vs
        → counts_read short (enabled_from d (suc k) (m / 2)) vs (pre ++ c ∷ replicate d 0) ≡ pre ++ c ∷ counts_from d short (m / 2) vs)
        → counts_read short (channel_if b k (enabled_from d (suc k) (m / 2))) us (pre ++ 0 ∷ replicate d 0) ≡ pre ++ count_first b short (counts_from d short (m / 2)) us
    go zero us r ih = ih 0 us r
    go (suc b) [] r ih = absurd (omega arith)
    go (suc b) (w ∷ us) r ih =
        ap (counts_read short (enabled_from d (suc k) (m / 2)) us) (set_at pre 0 (replicate d 0) (count_in short w) k e) ∙ ih (count_in short w) us (omega arith)
