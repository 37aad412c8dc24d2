-- A run of channels, each clocked by the carry of the one before it, counts as one chain: the module's way of
-- clocking (`clocked`) is, seen from a run, the tick of a chain (`tick_chain`), and of the other channels it changes
-- none. Once for every width and every way of joining. Assumes nothing.
use Prim.Native.Nat.{ℕ, zero, suc, ◌<◌}
use mathlib.Core.Path.{◌≡◌, refl, sym, ap, ap₂, ◌∙◌}
use mathlib.Core.Bool.{Bool, true, false, cond, ◌&&◌, ◌||◌, false≢true}
use mathlib.Core.List.{List, [], ◌∷◌, map}
use native.Mathlib.Omega.{arith}
use borrow.Author.Tests.{eqb-false}
use lib.Dec.{eqb}
use lib.ListN.{length, get_or, set, length-set}
use lib.Seq.{get_or-set_same, get_or-set_other}
use Rattle.count.specs.Counter.{next, carries}
use Rattle.count.specs.Chain.{tick_chain}
use Rattle.count.proofs.Carry.{on_carry}
use Rattle.count.proofs.Mapping.{get_d_map}
use Rattle.bus.proofs.Places.{left_of, right_of}
use Rattle.scaler.specs.Clock.{count_one, clocked}
use Rattle.scaler.specs.Held.{path, counts_of}
use Rattle.bus.proofs.Choices.{cond_same}

-- whether a channel is one of these
abbrev pub among : ℕ → List ℕ → Bool
among k [] = false
among k (c ∷ cs) = eqb k c || among k cs

-- n + 1 channels from k on are a run: each but the last is joined to the one after it, no channel comes twice, and
-- each is one of m
unfoldable pub Run : (ℕ → Bool) → (ℕ → ℕ) → ℕ → ℕ → ℕ → Type 0
Run joins after m zero k = (k < m) × (joins k ≡ false)
Run joins after m (suc n) k = (k < m) × (joins k ≡ true) × (among k (path after (suc n) (after k)) ≡ false) × Run joins after m n (after k)

-- ---- plain facts
pub or_left : (a b : Bool) → a || b ≡ false → a ≡ false
or_left true b e = e
or_left false b e = refl

pub or_right : (a b : Bool) → a || b ≡ false → b ≡ false
or_right true b e = absurd (false≢true (sym e))
or_right false b e = e

pub or_true : (a b : Bool) → b ≡ true → a || b ≡ true
or_true true b e = refl
or_true false b e = e

and_left : (a b : Bool) → b ≡ true → a && b ≡ false → a ≡ false
and_left true b t e = absurd (false≢true (sym e ∙ t))
and_left false b t e = refl

cons : {x y : ℕ} {xs ys : List ℕ} → x ≡ y → xs ≡ ys → x ∷ xs ≡ y ∷ ys
cons p q = ap₂ {C = List ℕ} (λ v vs. v ∷ vs) p q

-- a channel that is none of these is not the first of them
pub apart : (k c : ℕ) (cs : List ℕ) → among k (c ∷ cs) ≡ false → c ≡ k → ⊥
apart k c cs o e = eqb-false k c (or_left (eqb k c) (among k cs) o) (sym e)

-- a store at another channel
counts_set : (run counts : List ℕ) (k v : ℕ) → among k run ≡ false → counts_of run (set counts k v) ≡ counts_of run counts
counts_set [] counts k v o = refl
counts_set (c ∷ cs) counts k v o =
    cons (get_or-set_other counts k c v 0 (apart k c cs o)) (counts_set cs counts k v (or_right (eqb k c) (among k cs) o))

module _ (w : ℕ) (joins : ℕ → Bool) (after : ℕ → ℕ) (m : ℕ) where
  -- a channel outside a run stays as it was when the run is clocked
  clocked_off : (n j k : ℕ) (counts : List ℕ) (x : ℕ) → Run joins after m j k → among x (path after (suc j) k) ≡ false
      → get_or (clocked w joins after n k counts) x 0 ≡ get_or counts x 0
  unfolding clocked path Run
  clocked_off zero j k counts x r o = refl
  clocked_off (suc n) zero k counts x r o =
      on_carry (λ (l : List ℕ). get_or l x 0 ≡ get_or counts x 0) (carries w (get_or counts k 0) && joins k) (clocked w joins after n (after k) (count_one w k counts)) (count_one w k counts)
      (λ e. absurd (false≢true (sym r.1 ∙ right_of (carries w (get_or counts k 0)) (joins k) e)))
      (λ _. get_or-set_other counts k x (next w (get_or counts k 0)) 0 (λ e. apart x k [] o (sym e)))
  clocked_off (suc n) (suc j) k counts x r o =
      let s = get_or-set_other counts k x (next w (get_or counts k 0)) 0 (λ e. apart x k (path after (suc j) (after k)) o (sym e)) in
      on_carry (λ (l : List ℕ). get_or l x 0 ≡ get_or counts x 0) (carries w (get_or counts k 0) && joins k) (clocked w joins after n (after k) (count_one w k counts)) (count_one w k counts)
      (λ _. clocked_off n j (after k) (count_one w k counts) x r.3 (or_right (eqb x k) (among x (path after (suc j) (after k))) o) ∙ s)
      (λ _. s)

  -- a run is a chain: clocking its first channel is one tick of the chain
  pub run_ticks : (n j k : ℕ) (counts : List ℕ) → j < n → length counts ≡ m → Run joins after m j k
      → counts_of (path after (suc j) k) (clocked w joins after n k counts) ≡ tick_chain w (counts_of (path after (suc j) k) counts)
  unfolding clocked path Run tick_chain
  run_ticks zero j k counts h l r = absurd (omega arith)
  run_ticks (suc n) zero k counts h l r =
      let x = get_or counts k 0 in
      on_carry (λ (c : List ℕ). counts_of (k ∷ []) c ≡ next w x ∷ cond (carries w x) [] []) (carries w x && joins k) (clocked w joins after n (after k) (count_one w k counts)) (count_one w k counts)
      (λ e. absurd (false≢true (sym r.1 ∙ right_of (carries w x) (joins k) e)))
      (λ _. cons (get_or-set_same counts k (next w x) 0 (rw l r.0)) (sym (cond_same (carries w x) [])))
  run_ticks (suc n) (suc j) k counts h l r =
      let x = get_or counts k 0 in
      let p = path after (suc j) (after k) in
      let s = get_or-set_same counts k (next w x) 0 (rw l r.0) in
      let t = counts_set p counts k (next w x) r.2 in
      on_carry (λ (c : List ℕ). counts_of (k ∷ p) c ≡ next w x ∷ cond (carries w x) (tick_chain w (counts_of p counts)) (counts_of p counts)) (carries w x && joins k) (clocked w joins after n (after k) (count_one w k counts)) (count_one w k counts)
      (λ e. rw (left_of (carries w x) (joins k) e)
      (cons (clocked_off n j (after k) (count_one w k counts) k r.3 r.2 ∙ s)
      (run_ticks n j (after k) (count_one w k counts) (omega arith) (length-set counts k (next w x) ∙ l) r.3 ∙ ap (tick_chain w) t)))
      (λ e. rw (and_left (carries w x) (joins k) r.1 e) (cons s t))

  -- channels that no channel outside them clocks stay as they were when one outside them is clocked
  pub others_stay : (run : List ℕ)
      → ((x : ℕ) → x < m → among x run ≡ false → joins x ≡ true → (after x < m) × (among (after x) run ≡ false))
      → (n k : ℕ) (counts : List ℕ) → k < m → among k run ≡ false → counts_of run (clocked w joins after n k counts) ≡ counts_of run counts
  unfolding clocked
  others_stay run shut zero k counts h o = refl
  others_stay run shut (suc n) k counts h o =
      let s = counts_set run counts k (next w (get_or counts k 0)) o in
      on_carry (λ (l : List ℕ). counts_of run l ≡ counts_of run counts) (carries w (get_or counts k 0) && joins k) (clocked w joins after n (after k) (count_one w k counts)) (count_one w k counts)
      (λ e. let q = shut k h o (right_of (carries w (get_or counts k 0)) (joins k) e) in others_stay run shut n (after k) (count_one w k counts) q.0 q.1 ∙ s)
      (λ _. s)

  pub length_clocked : (n k : ℕ) (counts : List ℕ) → length (clocked w joins after n k counts) ≡ length counts
  unfolding clocked
  length_clocked zero k counts = refl
  length_clocked (suc n) k counts =
      let s = length-set counts k (next w (get_or counts k 0)) in
      on_carry (λ (l : List ℕ). length l ≡ length counts) (carries w (get_or counts k 0) && joins k) (clocked w joins after n (after k) (count_one w k counts)) (count_one w k counts)
      (λ _. length_clocked n (after k) (count_one w k counts) ∙ s)
      (λ _. s)

-- TEST: of a single channel one tick
pub single_ticks : (w k : ℕ) (counts : List ℕ) → k < length counts → counts_of (k ∷ []) (map (next w) counts) ≡ tick_chain w (counts_of (k ∷ []) counts)
unfolding tick_chain
single_ticks w k counts h = cons (get_d_map (next w) counts k h) (sym (cond_same (carries w (get_or counts k 0)) []))

pub length_path : (after : ℕ → ℕ) (n k : ℕ) → length (path after n k) ≡ n
unfolding path
length_path after zero k = refl
length_path after (suc n) k = ap suc (length_path after n (after k))
