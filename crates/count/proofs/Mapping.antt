-- A list changed in its place, an element a turn: what is done, and what is left to do, give the whole. And an
-- element of a list that is mapped. Assumes nothing.
use Prim.Native.Nat.{ℕ, zero, suc, ◌+◌, ◌≤◌, ◌<◌}
use mathlib.Core.Path.{◌≡◌, refl, sym, ◌∙◌}
use mathlib.Core.List.{List, [], ◌∷◌, ◌++◌, map, append-nil}
use native.Mathlib.Numerals.{add-one}
use native.Mathlib.Omega.{arith}
use lib.ListN.{length, get_or, set, take, drop, drop_of_length-le}
use lib.Seq.{drop-cons, take-suc-set, drop-set-lt, append_snoc, take_all}

-- f is what is left to do of the elements from k on
pub record Mapping (f : List ℕ → List ℕ) (whole xs : List ℕ) (k : ℕ) : Type 0 where
  pub same : take k xs ++ f (drop k xs) ≡ whole

pub map_start : (f : List ℕ → List ℕ) (xs : List ℕ) → Mapping f (f xs) xs 0
map_start f xs = record { same = refl }

module _ {f : List ℕ → List ℕ} {whole xs : List ℕ} {k : ℕ} (e : Mapping f whole xs k) where
  -- u is what f makes of the next element, and g what it makes of the others
  pub map_turn : (g : List ℕ → List ℕ) {u : ℕ} (v : ℕ) → f (get_or xs k 0 ∷ drop (suc k) xs) ≡ u ∷ g (drop (suc k) xs) → k < length xs → v ≡ u → Mapping g whole (set xs k v) (k + 1)
  map_turn g v l h n =
      let old : take k xs ++ v ∷ g (drop (suc k) xs) ≡ whole = rw n (rw l at (rw (drop-cons xs k 0 h) at e.same)) in
      let d : drop (suc k) (set xs k v) ≡ drop (suc k) xs = drop-set-lt (suc k) xs k v (omega arith) in
      record { same = rw (add-one, take-suc-set xs k v h, d) (append_snoc (take k xs) v (g (drop (suc k) xs)) ∙ old) }

  pub map_over : f [] ≡ [] → length xs ≤ k → xs ≡ whole
  map_over z h =
      let d : take k xs ++ [] ≡ whole = rw z at (rw (drop_of_length-le xs {i = k} h) at e.same) in
      sym (take_all k xs h) ∙ sym (append-nil (take k xs)) ∙ d

pub get_d_map : (f : ℕ → ℕ) (xs : List ℕ) (k : ℕ) → k < length xs → get_or (map f xs) k 0 ≡ f (get_or xs k 0)
get_d_map f [] k h = absurd (omega arith)
get_d_map f (x ∷ xs) zero h = refl
get_d_map f (x ∷ xs) (suc k) h = get_d_map f xs k (omega arith)
