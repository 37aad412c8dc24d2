-- A read block, written again, gives its words: where the reader does not refuse words, the writer of the event that
-- it gives, with the same settings and enough lent words, gives the same answer, with the same length, and leaves the
-- event's words, as they were read, in front of the lent words that stay. In both formats, with header and without,
-- of any Channel Enable.
--
-- What the code's types say is said here: Channel Enable and every word have 32 bits. Assumes nothing.
use mathlib.Core.Path.{◌≡◌, refl, sym, ap, ap₂, ◌∙◌}
use mathlib.Core.Bool.{Bool, true, false, cond, false≢true}
use mathlib.Core.List.{List, [], ◌∷◌, ◌++◌}
use Prim.Native.Nat.{ℕ, zero, suc, ◌+◌, ◌*◌, ◌/◌, ◌%◌, ◌^◌, ◌≤◌, ◌<◌}
use native.Mathlib.Numerals.{add-one}
use native.Mathlib.Nat.{add-zero}
use native.Mathlib.Omega.{arith}
use borrow.Author.Tests.{eqb-true, ne_eqb, le-leb, lt-ltb}
use lib.Count.{ones_in}
use lib.Dec.{eqb}
use lib.ListN.{length, get_or, take, drop, replicate}
use Rattle.std.specs.Prelude.{Result}
use Rattle.layout.specs.declared.Refusal.{Refusal}
use Rattle.layout.specs.declared.Words.{Words}
use Rattle.layout.specs.declared.Refusal.TheVariants.{DatumWithBit26, AnotherChannel}
use Rattle.layout.specs.declared.Settings.{Settings}
use Rattle.layout.specs.Layout.{datum_of, data_of, event_words}
use Rattle.layout.specs.Length.{channel_if, event_length, header_length, enabled_from, enabled_channels}
use Rattle.layout.specs.Numbers.{gives_length, no_refusal}
use Rattle.layout.specs.Reader.{datum_answer, data_answer, read_answer, count_in, counts_read, event_in, read_of, event_given}
use Rattle.layout.specs.Writer.{count_fits, counts_fit, writable, write_answer, write_words}
use Rattle.layout.proofs.Answers.{GoodHeader, if_so, read_done, body_done, reads_done}
use Rattle.layout.proofs.Enabled.{length_enabled, ones_in_le}
use Rattle.layout.proofs.Halves.{settings, data_from, count_first, counts_from, length_counts, data_from_lem, counts_from_lem}
use Rattle.layout.proofs.Refusals.{given_event}
use Rattle.layout.proofs.Written.{write_answers, write_leaves}

-- ---- the data
-- a datum that is not refused is the one of its channel and its count
datum_again : (short : Bool) (k w : ℕ) (rest d : Result Words Refusal) → no_refusal (cond short (datum_answer k w rest) d) ≡ true
    → (datum_of short k (count_in short w) ≡ w) × (no_refusal (cond short rest d) ≡ true)
datum_again true k w rest d g =
    let a = if_so (eqb (w / 2 ^ 26 % 2) 0) _ DatumWithBit26 refl g in
    let b = if_so (eqb (w / 2 ^ 27) k) rest AnotherChannel refl a.1 in
    let z : w / 2 ^ 26 % 2 ≡ 0 = eqb-true _ _ a.0 in
    let e : w / 2 ^ 27 ≡ k = eqb-true _ _ b.0 in
    (omega arith, b.1)
datum_again false k w rest d g = (refl, g)

data_again : (short : Bool) (d k m : ℕ) (ws : List ℕ) (a : Result Words Refusal) → length (enabled_from d k m) ≤ length ws
    → no_refusal (cond short (data_answer (enabled_from d k m) ws a) a) ≡ true → data_from short k m (counts_from d short m ws) ≡ take (length (enabled_from d k m)) ws
unfolding enabled_from counts_from data_from data_answer
data_again short zero k m ws a l g = refl
data_again short (suc d) k m ws a l g = go (m % 2) refl ws l g (λ us r f. data_again short d (suc k) (m / 2) us a r f)
  where
    go : (b : ℕ) → m % 2 ≡ b → (us : List ℕ) → length (channel_if b k (enabled_from d (suc k) (m / 2))) ≤ length us
        → no_refusal (cond short (data_answer (channel_if b k (enabled_from d (suc k) (m / 2))) us a) a) ≡ true
        → ((vs : List ℕ) → length (enabled_from d (suc k) (m / 2)) ≤ length vs → no_refusal (cond short (data_answer (enabled_from d (suc k) (m / 2)) vs a) a) ≡ true
        → data_from short (suc k) (m / 2) (counts_from d short (m / 2) vs) ≡ take (length (enabled_from d (suc k) (m / 2))) vs)
        → data_from short k m (count_first b short (counts_from d short (m / 2)) us) ≡ take (length (channel_if b k (enabled_from d (suc k) (m / 2)))) us
    go zero e us r f ih = rw e (ih us r f)
    go (suc b) e [] r f ih = absurd (omega arith)
    go (suc b) e (w ∷ us) r f ih =
        let p = datum_again short k w (data_answer (enabled_from d (suc k) (m / 2)) us a) a f in
        rw e (ap₂ (λ (x : ℕ) (xs : List ℕ). x ∷ xs) p.0 (ih us (omega arith) p.1))

-- the counts that are read can be written
count_fits_lem : (short : Bool) (b w : ℕ) → count_fits short (suc b) (count_in short w) ≡ true
count_fits_lem true b w = rw (lt-ltb (w % 2 ^ 26) (2 ^ 26) (omega arith), ne_eqb (suc b) 0 (λ e. omega arith))
count_fits_lem false b w = rw (ne_eqb (suc b) 0 (λ e. omega arith))

either_way : (t : Bool) → cond t true true ≡ true
either_way true = refl
either_way false = refl

zero_fits : (short : Bool) (b : ℕ) → count_fits short b 0 ≡ true
zero_fits true b = either_way (eqb b 0)
zero_fits false b = either_way (eqb b 0)

counts_fit_lem : (short : Bool) (d m : ℕ) (ws : List ℕ) → counts_fit short m (counts_from d short m ws) ≡ true
unfolding counts_fit counts_from
counts_fit_lem short zero m ws = refl
counts_fit_lem short (suc d) m ws = go (m % 2) refl ws (λ us. counts_fit_lem short d (m / 2) us)
  where
    go : (b : ℕ) → m % 2 ≡ b → (us : List ℕ) → ((vs : List ℕ) → counts_fit short (m / 2) (counts_from d short (m / 2) vs) ≡ true)
        → counts_fit short m (count_first b short (counts_from d short (m / 2)) us) ≡ true
    go zero e us ih = rw (zero_fits short (m % 2)) (ih us)
    go (suc b) e [] ih = rw (zero_fits short (m % 2)) (ih [])
    go (suc b) e (w ∷ us) ih = rw (e, count_fits_lem short b w) (ih us)

-- ---- over the list of the enabled channels; `ws` are the words behind the header
module _ (short : Bool) (x : ℕ) (ws : List ℕ) (l : length (enabled_channels x) ≤ length ws) where
  counts_are : counts_read short (enabled_channels x) ws (replicate 32 0) ≡ counts_from 32 short x ws
  counts_are = counts_from_lem short 32 0 x [] ws refl l

  body_fits : counts_fit short x (counts_read short (enabled_channels x) ws (replicate 32 0)) ≡ true
  body_fits = ap (counts_fit short x) counts_are ∙ counts_fit_lem short 32 x ws

  body_again : (a : Result Words Refusal) → no_refusal (cond short (data_answer (enabled_channels x) ws a) a) ≡ true
      → data_of short (counts_read short (enabled_channels x) ws (replicate 32 0)) (enabled_channels x) ≡ take (length (enabled_channels x)) ws
  body_again a g =
      ap (λ (cs : List ℕ). data_of short cs (enabled_channels x)) counts_are
      ∙ rw (length_counts 32 short x ws) at (data_from_lem short 0 x [] (counts_from 32 short x ws) refl)
      ∙ data_again short 32 0 x ws a l g

-- a datum's answer that is no refusal is the one behind the data
data_done : (ks ws : List ℕ) (a : Result Words Refusal) → no_refusal (data_answer ks ws a) ≡ true → data_answer ks ws a ≡ a
unfolding data_answer
data_done [] ws a g = refl
data_done (k ∷ ks) [] a g = absurd (false≢true g)
data_done (k ∷ ks) (w ∷ ws) a g =
    let p = if_so (eqb (w / 2 ^ 26 % 2) 0) _ DatumWithBit26 refl g in
    let q = if_so (eqb (w / 2 ^ 27) k) _ AnotherChannel refl p.1 in
    rw (p.0, q.0) (data_done ks ws a q.1)

-- ---- the header: a number is the sum of its fields, taken off one after the other
fields : (h : ℕ) → (h ≡ h / 2 ^ 16 * 2 ^ 16 + h % 2 ^ 16) × (h / 2 ^ 16 ≡ h / 2 ^ 18 * 4 + h / 2 ^ 16 % 4) × (h / 2 ^ 18 ≡ h / 2 ^ 24 * 64 + h / 2 ^ 18 % 64)
    × (h / 2 ^ 24 ≡ h / 2 ^ 26 * 4 + h / 2 ^ 24 % 4) × (h / 2 ^ 26 ≡ h / 2 ^ 27 * 2 + h / 2 ^ 26 % 2)
fields h = (omega arith, omega arith, omega arith, omega arith, omega arith)

header_again : (h o : ℕ) → h / 2 ^ 26 % 2 ≡ 1 → h / 2 ^ 24 % 4 ≡ 0 → h / 2 ^ 18 % 64 ≡ o
    → h / 2 ^ 27 * 2 ^ 27 + 1 * 2 ^ 26 + o * 2 ^ 18 + h / 2 ^ 16 % 4 * 2 ^ 16 + h % 2 ^ 16 ≡ h
header_again h o p q r = go (h / 2 ^ 16) (h / 2 ^ 18) (h / 2 ^ 24) (h / 2 ^ 26) (h / 2 ^ 27) (h % 2 ^ 16) (h / 2 ^ 16 % 4) (fields h).0 (fields h).1 ((fields h).2 ∙ ap (λ (z : ℕ). h / 2 ^ 24 * 64 + z) r) ((fields h).3 ∙ ap (λ (z : ℕ). h / 2 ^ 26 * 4 + z) q) ((fields h).4 ∙ ap (λ (z : ℕ). h / 2 ^ 27 * 2 + z) p)
  where
    go : (a b c d e t s : ℕ) → h ≡ a * 2 ^ 16 + t → a ≡ b * 4 + s → b ≡ c * 64 + o → c ≡ d * 4 + 0 → d ≡ e * 2 + 1 → e * 2 ^ 27 + 1 * 2 ^ 26 + o * 2 ^ 18 + s * 2 ^ 16 + t ≡ h
    go a b c d e t s g i j k l = omega arith

-- ---- the event
module _ (short : Bool) (x : ℕ) (b : x < 2 ^ 32) where
  n : length (enabled_channels x) ≡ ones_in 32 x
  n = length_enabled 32 0 x

  can_again : (header : Bool) (ws : List ℕ) → get_or ws 0 0 < 2 ^ 32 → event_length (settings header short x) ≤ length ws
      → writable (settings header short x) (event_in (settings header short x) ws) ≡ true
  unfolding writable event_in
  can_again true [] f l = absurd (omega arith)
  can_again true (h ∷ us) f l =
      rw (le-leb (h / 2 ^ 27) 31 (omega arith), le-leb (h / 2 ^ 16 % 4) 3 (omega arith), le-leb (h % 2 ^ 16) 65535 (omega arith))
      (body_fits short x us (omega (arith, n)))
  can_again false ws f l = body_fits short x ws (omega (arith, n))

  words_again : (header : Bool) (ws : List ℕ) → get_or ws 0 0 < 2 ^ 32 → event_length (settings header short x) ≤ length ws
      → (header ≡ true → GoodHeader (settings header short x) (get_or ws 0 0))
      → no_refusal (cond short (data_answer (enabled_channels x) (drop (header_length (settings header short x)) ws) (gives_length (settings header short x))) (gives_length (settings header short x))) ≡ true
      → event_words (settings header short x) (event_in (settings header short x) ws) ≡ take (event_length (settings header short x)) ws
  unfolding event_in
  words_again true [] f l g d = absurd (omega arith)
  words_again true (h ∷ us) f l g d =
      let q = g refl in
      rw add-one (ap₂ (λ (y : ℕ) (ys : List ℕ). y ∷ ys) (header_again h (ones_in 32 x) q.0 q.1 q.2) (body_again short x us (omega (arith, n)) _ d ∙ ap (λ (k : ℕ). take k us) n))
  words_again false ws f l g d = rw add-zero (body_again short x ws (omega (arith, n)) _ d ∙ ap (λ (k : ℕ). take k ws) n)

-- ---- the theorem
pub read_writes_again : (st : Settings) (ws lent : List ℕ) → st.enable < 2 ^ 32 → ((i : ℕ) → get_or ws i 0 < 2 ^ 32) → no_refusal (read_answer st ws) ≡ true
    → event_length st ≤ length lent
    → (write_answer st (event_given (read_of st ws)) lent ≡ read_answer st ws)
    × (write_words st (event_given (read_of st ws)) lent ≡ take (event_length st) ws ++ drop (event_length st) lent)
read_writes_again st ws lent b w d r =
    let p = read_done st ws d in
    let q = body_done st ws p.2 in
    let can : writable st (event_in st ws) ≡ true = can_again st.short st.enable b st.header ws (w 0) q.0 in
    let same : event_words st (event_in st ws) ≡ take (event_length st) ws = words_again st.short st.enable b st.header ws (w 0) q.0 p.1 q.1 in
    let a : read_answer st ws ≡ gives_length st = reads_done st ws (ones_in_le 32 st.enable) p.0 q.0 p.1 (good st.short q.1) in
    rw (given_event st ws d) (write_answers st (event_in st ws) lent p.0 can r ∙ sym a, write_leaves st (event_in st ws) lent p.0 can r ∙ ap (λ (us : List ℕ). us ++ drop (event_length st) lent) same)
  where
    good : (t : Bool) → no_refusal (cond t (data_answer (enabled_channels st.enable) (drop (header_length st) ws) (gives_length st)) (gives_length st)) ≡ true
        → t ≡ true → data_answer (enabled_channels st.enable) (drop (header_length st) ws) (gives_length st) ≡ gives_length st
    good true g e = data_done (enabled_channels st.enable) (drop (header_length st) ws) (gives_length st) g
    good false g e = absurd (false≢true e)
