-- Laws of the ring: what is stored after an event is put is what was stored, then the event's words; after a word is
-- handed out, all but it. Assumes nothing.
use mathlib.Core.Path.{◌≡◌, refl, sym, ap, ap₂, ◌∙◌}
use mathlib.Core.Logic.{◌≢◌}
use mathlib.Core.Bool.{Bool, true, false, cond}
use mathlib.Core.List.{List, [], ◌∷◌, ◌++◌, append-nil}
use Prim.Native.Nat.{ℕ, zero, suc, ◌+◌, ◌-◌, ◌%◌, ◌≤◌, ◌<◌}
use native.Mathlib.Nat.{add-zero, add-suc, suc-add, suc-mod, mod-lt, mod-add-mod, mod_self, mod-eq_of_lt, mod-eq-sub-mod}
use native.Mathlib.Decide.{dec_lt}
use native.Mathlib.Numerals.{add-one}
use native.Mathlib.Omega.{arith}
use borrow.Author.Tests.{le-leb, lt-ltb, le-ltb, ne_eqb}
use lib.Dec.{leb}
use lib.ListN.{length, get_or, set, drop, length-set, drop_of_length-le}
use lib.Seq.{get_or-set_same, get_or-set_other, append_snoc, drop-cons}
use Rattle.meb.specs.declared.Store.{Store}
use Rattle.meb.specs.Ring.{Memory, lent, behind, put_round, words_round}
use Rattle.meb.specs.Stores.{Filled, emptied, handed, handed_of, longer, put_of, shorter, stored_words}

-- two places less than a round apart are different
apart : (c x y : ℕ) → x < y → y < x + c → x % c ≢ y % c
apart c x y l h e = go (dec_lt (x % c + (y - x)) c)
  where
    r : x % c < c
    r = mod-lt x (omega arith)

    s : (x % c + (y - x)) % c ≡ x % c
    s = mod-add-mod x c (y - x) ∙ ap (λ (n : ℕ). n % c) (omega arith) ∙ sym e

    go : Dec (x % c + (y - x) < c) → ⊥
    go (yes a) = omega (arith, mod-eq_of_lt a, s, r)
    go (no b) =
        omega (arith, mod-eq-sub-mod {n = x % c + (y - x)} {m = c} (omega arith), mod-eq_of_lt {n = x % c + (y - x) - c} {m = c} (omega (arith, r)), s, r)

module _ (c : ℕ) where
  -- only the place counts
  round_same : (m : List ℕ) (f g n : ℕ) → f % c ≡ g % c → words_round c m f n ≡ words_round c m g n
  unfolding words_round
  round_same m f g zero e = refl
  round_same m f g (suc n) e =
      ap₂ (λ (x : ℕ) (l : List ℕ). get_or m x 0 ∷ l) e
      (round_same m (suc f) (suc g) n (suc-mod f c ∙ ap (λ (x : ℕ). suc x % c) e ∙ sym (suc-mod g c)))

  -- one word more at the end
  round_snoc : (m : List ℕ) (f n : ℕ) → words_round c m f (suc n) ≡ words_round c m f n ++ (get_or m ((f + n) % c) 0 ∷ [])
  unfolding words_round
  round_snoc m f zero = rw add-zero
  round_snoc m f (suc n) = ap (λ (l : List ℕ). get_or m (f % c) 0 ∷ l) (round_snoc m (suc f) n ∙ rw (suc-add f n, add-suc f n))

  -- a word put past these, and less than a round from the first, is not among them
  round_set : (m : List ℕ) (f n a v : ℕ) → f + n ≤ a → a < f + c → words_round c (set m (a % c) v) f n ≡ words_round c m f n
  unfolding words_round
  round_set m f zero a v l h = refl
  round_set m f (suc n) a v l h =
      ap₂ (λ (x : ℕ) (t : List ℕ). x ∷ t) (get_or-set_other m (a % c) (f % c) v 0 (apart c f a (omega arith) h))
      (round_set m (suc f) n a v (omega arith) (omega arith))

  pub put_length : (m : List ℕ) (a : ℕ) (ws : List ℕ) → length (put_round c m a ws) ≡ length m
  unfolding put_round
  put_length m a [] = refl
  put_length m a (w ∷ ws) = put_length (set m (a % c) w) (suc a) ws ∙ length-set m (a % c) w

  -- "Words outside those now written stay."
  pub put_stays : (m : List ℕ) (a : ℕ) (ws : List ℕ) (p : ℕ) → ((j : ℕ) → j < length ws → p ≢ (a + j) % c) → get_or (put_round c m a ws) p 0 ≡ get_or m p 0
  unfolding put_round
  put_stays m a [] p h = refl
  put_stays m a (w ∷ ws) p h =
      put_stays (set m (a % c) w) (suc a) ws p (λ j l. rw (suc-add a j, ← add-suc a j) (h (suc j) (omega arith)))
      ∙ get_or-set_other m (a % c) p w 0 (rw add-zero at (h 0 (omega arith)))

  -- the words that are put stand after the old ones
  put_after : (m : List ℕ) (f n : ℕ) (ws : List ℕ) → length m ≡ c → n + length ws ≤ c
      → words_round c (put_round c m (f + n) ws) f (n + length ws) ≡ words_round c m f n ++ ws
  unfolding put_round
  put_after m f n [] e h = rw (add-zero n, append-nil)
  put_after m f n (w ∷ ws) e h =
      let m' : List ℕ = set m ((f + n) % c) w in
      let ih : words_round c (put_round c m' (f + suc n) ws) f (suc n + length ws) ≡ words_round c m' f (suc n) ++ ws =
      put_after m' f (suc n) ws (length-set m ((f + n) % c) w ∙ e) (omega arith) in
      let s : words_round c m' f (suc n) ≡ words_round c m f n ++ (w ∷ []) =
      round_snoc m' f n
      ∙ ap₂ (λ (x : List ℕ) (y : ℕ). x ++ (y ∷ [])) (round_set m f n (f + n) w (omega arith) (omega arith))
      (get_or-set_same m ((f + n) % c) w 0 (omega (arith, mod-lt (f + n) {m = c} (omega arith)))) in
      rw (add-suc n (length ws), ← suc-add n (length ws), ← add-suc f n) (ih ∙ ap (λ (l : List ℕ). l ++ ws) s ∙ append_snoc (words_round c m f n) w ws)

  -- so they do where as many are free as are put
  put_free : (m : List ℕ) (f n : ℕ) (ws : List ℕ) → length m ≡ c → length ws ≤ c - n
      → words_round c (put_round c m (f + n) ws) f (n + length ws) ≡ words_round c m f n ++ ws
  unfolding put_round
  put_free m f n [] e h = rw (add-zero n, append-nil)
  put_free m f n (w ∷ ws) e h = put_after m f n (w ∷ ws) e (omega arith)

  -- the loop that puts words: a word is put at place p, and the others are left to put
  pub put_turn : (m ws : List ℕ) (a j p : ℕ) → j < length ws → p ≡ (a + j) % c
      → put_round c (set m p (get_or ws j 0)) (a + (j + 1)) (drop (j + 1) ws) ≡ put_round c m (a + j) (drop j ws)
  unfolding put_round
  put_turn m ws a j p h e = rw (e, add-one, drop-cons ws j 0, add-suc a j)

  pub put_done : (m ws : List ℕ) (a j : ℕ) → length ws ≤ j → put_round c m a (drop j ws) ≡ m
  unfolding put_round
  put_done m ws a j h = rw drop_of_length-le

  -- a memory of no words gets none
  pub put_nowhere : (m : List ℕ) (a : ℕ) (ws : List ℕ) → length m ≤ 0 → put_round c m a ws ≡ m
  unfolding put_round
  put_nowhere m a [] h = refl
  put_nowhere [] a (w ∷ ws) h = put_nowhere [] (suc a) ws h
  put_nowhere (x ∷ m) a (w ∷ ws) h = absurd (omega arith)

-- after an event is put: what was stored, then the event's words
pub stored_after_put : (m : Store) (memory : Memory) (ws : List ℕ) → length memory.words ≡ m.capacity.0 → length ws ≤ m.capacity.0 - m.stored.0
    → stored_words (put_of m memory ws).store (put_of m memory ws).memory ≡ stored_words m memory ++ ws
stored_after_put m memory ws e h = rw (le-leb _ _ h, e) (put_free m.capacity.0 memory.words m.first m.stored.0 ws e h)

-- the place behind a place is that of the next number
behind_place : (c at : ℕ) → at < c → behind c at % c ≡ suc at % c
behind_place c at l = go (dec_lt (at + 1) c)
  where
    go : Dec (at + 1 < c) → behind c at % c ≡ suc at % c
    go (yes h) = rw (lt-ltb _ _ h, add-one)
    go (no h) =
        let e : suc at ≡ c = omega (arith, h) in
        rw (le-ltb (at + 1) c (omega (arith, h)), e, mod_self, mod-eq_of_lt {n = 0} {m = c} (omega arith))

-- after a word is handed out: all but the first, which is that word
pub stored_after_hand_out : (m : Store) (memory : Memory) → 0 < m.stored.0 → m.first < m.capacity.0
    → stored_words m memory ≡ get_or memory.words m.first 0 ∷ stored_words (shorter m) memory
unfolding words_round
stored_after_hand_out m memory h l =
    let c : ℕ = m.capacity.0 in
    let e : m.stored.0 ≡ suc (m.stored.0 - 1) = omega arith in
    ap (words_round c memory.words m.first) e
    ∙ ap₂ (λ (x : ℕ) (t : List ℕ). get_or memory.words x 0 ∷ t) (mod-eq_of_lt l)
    (sym (round_same c memory.words (behind c m.first) (suc m.first) (m.stored.0 - 1) (behind_place c m.first l)))

pub handed_word : (m : Store) (memory : Memory) → 0 < m.stored.0 → handed_of m memory ≡ handed (get_or memory.words m.first 0) (shorter m)
handed_word m memory h = rw (ne_eqb m.stored.0 0 (λ e. omega arith))

-- nothing is stored where no words are
pub stored_none : (c : ℕ) (memory : List ℕ) (f : ℕ) → words_round c memory f 0 ≡ []
unfolding words_round
stored_none c memory f = refl

pub emptied_none : (m : Store) (memory : Memory) → stored_words (emptied m) memory ≡ []
emptied_none m memory = stored_none m.capacity.0 memory.words 0

-- a memory keeps its length
pub put_keeps_length : (m : Store) (memory : Memory) (ws : List ℕ) → length (put_of m memory ws).memory.words ≡ length memory.words
put_keeps_length m memory ws = cases (leb (length ws) (m.capacity.0 - m.stored.0)) _
  where
    put : ℕ → Filled
    put at = record { store = longer (length ws) m; memory = lent (put_round (length memory.words) memory.words at ws) }

    cases : (b : Bool) (at : ℕ) → length (cond b (put at) (record { store = m; memory = memory })).memory.words ≡ length memory.words
    cases true at = put_length (length memory.words) memory.words at ws
    cases false at = refl
