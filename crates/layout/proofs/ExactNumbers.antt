-- Each number of the block reader and of the block writer is given exactly when its line of document 01's table holds
-- and no earlier one does, and none exactly when no line holds: the chains of the definitions, link by link, beside
-- the lines. Assumes nothing.
use Prim.Native.Nat.{ℕ, suc, ◌+◌, ◌/◌, ◌%◌, ◌^◌, ◌≤◌, ◌<◌}
use mathlib.Core.Path.{◌≡◌, refl, sym, ap, ◌∙◌}
use mathlib.Core.Bool.{Bool, true, false, cond, not, ◌&&◌, ◌||◌}
use mathlib.Core.List.{List, [], ◌∷◌}
use mathlib.Core.Logic.{◌≢◌}
use native.Mathlib.Nat.{div-div-eq-div-mul, div-one, pow-suc}
use native.Mathlib.Omega.{arith}
use borrow.Author.Tests.{eqb-true, eqb-false, ltb-true, leb-true, leb-false, lt-ltb, le-ltb, eq-eqb, ne_eqb}
use lib.Count.{ones_in}
use lib.Dec.{eqb, ltb, leb}
use lib.ListN.{length, get_or, drop}
use lib.Pow.{shr-shr}
use lib.Seq.{drop-cons}
use Rattle.count.specs.Counter.{bit}
use Rattle.std.specs.Prelude.{Result}
use Rattle.layout.specs.declared.Refusal.{Refusal}
use Rattle.layout.specs.declared.Words.{Words}
use Rattle.layout.specs.declared.Refusal.TheVariants.{NoWords, WordsEnd, NotAHeader, CountAbove32, DatumWithBit26, AnotherChannel, AnotherCount, Bits25And24, TooFewLent, NotAnEvent}
use Rattle.layout.specs.declared.Event.{Event}
use Rattle.layout.specs.declared.Settings.{Settings}
use Rattle.layout.specs.Length.{event_length, header_length, enabled_channels}
use Rattle.layout.specs.Lines.{TableLine, given, first_number, First, here, later, NoneHolds, nothing, neither, Exact, holds_at, count_field, channel_field, data_lines, read_lines, some_count, wrong_event, write_lines}
use Rattle.layout.specs.Numbers.{refusal_number, number_of, gives_length, unless}
use Rattle.layout.specs.Reader.{header_answer, data_answer, body_answer, read_answer}
use Rattle.layout.specs.Writer.{fields_fit, fields_zero, counts_fit, writable, write_answer}
use Rattle.layout.proofs.Enabled.{length_enabled}

-- ---- what the first number of any lines means
pub first_holds : {lines : List TableLine} {n : ℕ} → First lines n → first_number lines ≡ n
unfolding first_number
first_holds (here h e) = rw h e
first_holds (later h f) = rw h (first_holds f)

pub number_of_first : (lines : List TableLine) (n : ℕ) → n ≢ 0 → first_number lines ≡ n → First lines n
unfolding first_number
number_of_first [] n z e = absurd (z (sym e))
number_of_first (l ∷ ls) n z e = go l.holds refl e (number_of_first ls n z)
  where
    go : (t : Bool) → l.holds ≡ t → cond t l.number (first_number ls) ≡ n → (first_number ls ≡ n → First ls n) → First (l ∷ ls) n
    go true h f ih = here h f
    go false h f ih = later h (ih f)

pub none_holds : {lines : List TableLine} → NoneHolds lines → first_number lines ≡ 0
unfolding first_number
none_holds nothing = refl
none_holds (neither h f) = rw h (none_holds f)

-- no line of these has the number 0
data Numbered : List TableLine → Type 0 where
  end : Numbered []
  some : {n : ℕ} {holds : Bool} {ls : List TableLine} → Numbered ls → Numbered (given (suc n) holds ∷ ls)

no_number : {lines : List TableLine} → Numbered lines → first_number lines ≡ 0 → NoneHolds lines
unfolding first_number
no_number end e = nothing
no_number (some {n = n} {holds = true} m) e = absurd (omega arith)
no_number (some {n = n} {holds = false} m) e = neither refl (no_number m e)

exact : {number : ℕ} (lines : List TableLine) → Numbered lines → number ≡ first_number lines → Exact number lines
exact lines m e =
    record {
      refused = λ n z. ((λ f. number_of_first lines n z (sym e ∙ f)), λ f. e ∙ first_holds f);
      not_refused = ((λ f. no_number m (sym e ∙ f)), λ f. e ∙ none_holds f);
    }

-- ---- a link of a chain beside its line
link : (b : Bool) (holds : Bool) (why : Refusal) (after : Result Words Refusal) (ls : List TableLine) → holds ≡ not b → (b ≡ true → number_of after ≡ first_number ls)
    → number_of (unless b why after) ≡ first_number (given (refusal_number why) holds ∷ ls)
unfolding first_number
link true holds why after ls e f = rw e (f refl)
link false holds why after ls e f = rw e

no_lines : first_number [] ≡ 0
unfolding first_number
no_lines = refl

no_header_lines : (ls : List TableLine) → first_number (given 21 false ∷ given 26 false ∷ given 22 false ∷ given 25 false ∷ ls) ≡ first_number ls
unfolding first_number
no_header_lines ls = refl

-- ---- tests and their opposites
above : (a b : ℕ) → ltb a b ≡ not (leb b a)
above a b = go (leb b a) refl
  where
    go : (t : Bool) → leb b a ≡ t → ltb a b ≡ not t
    go true e = le-ltb a b (leb-true b a e)
    go false e = lt-ltb a b (leb-false b a e)

at_least : (a b : ℕ) → leb a b ≡ not (ltb b a)
at_least a b = go (leb a b) refl
  where
    go : (t : Bool) → leb a b ≡ t → t ≡ not (ltb b a)
    go true e = rw (le-ltb b a (leb-true a b e))
    go false e = rw (lt-ltb b a (leb-false a b e))

is_none : (n : ℕ) → eqb n 0 ≡ not (ltb 0 n)
is_none n = go (eqb n 0) refl
  where
    go : (t : Bool) → eqb n 0 ≡ t → t ≡ not (ltb 0 n)
    go true e = rw (le-ltb 0 n (omega (arith, eqb-true n 0 e)))
    go false e = rw (lt-ltb 0 n (omega (arith, eqb-false n 0 e)))

bit_one : (n : ℕ) → eqb (n % 2) 1 ≡ not (eqb (n % 2) 0)
bit_one n = go (eqb (n % 2) 0) refl
  where
    go : (t : Bool) → eqb (n % 2) 0 ≡ t → eqb (n % 2) 1 ≡ not t
    go true e = ne_eqb (n % 2) 1 (λ f. omega (arith, eqb-true (n % 2) 0 e))
    go false e = eq-eqb (n % 2) 1 (omega (arith, eqb-false (n % 2) 0 e))

bit_zero : (n : ℕ) → eqb (n % 2) 0 ≡ not (eqb (n % 2) 1)
bit_zero n = rw (bit_one n) (sym (twice (eqb (n % 2) 0)))
  where
    twice : (t : Bool) → not (not t) ≡ t
    twice true = refl
    twice false = refl

both_zero : (w : ℕ) → (eqb (bit w 25) 0 && eqb (bit w 24) 0) ≡ eqb (w / 2 ^ 24 % 4) 0
both_zero w = go (w / 2 ^ 25) (w / 2 ^ 24) (sym (shr-shr w 24 1)) (eqb (bit w 25) 0) refl (eqb (bit w 24) 0) refl
  where
    go : (u v : ℕ) → u ≡ v / 2 → (s : Bool) → eqb (u % 2) 0 ≡ s → (t : Bool) → eqb (v % 2) 0 ≡ t → (s && t) ≡ eqb (v % 4) 0
    go u v h true e true f = sym (eq-eqb (v % 4) 0 (omega (arith, eqb-true (u % 2) 0 e, eqb-true (v % 2) 0 f)))
    go u v h true e false f = sym (ne_eqb (v % 4) 0 (λ z. eqb-false (v % 2) 0 f (omega arith)))
    go u v h false e t f = sym (ne_eqb (v % 4) 0 (λ z. eqb-false (u % 2) 0 e (omega arith)))

-- a word that is there
there : {i n : ℕ} → i < n → (t : Bool) → (ltb i n && t) ≡ t
there {i} {n} h t = rw (lt-ltb i n h)

-- ---- the reader
-- the data in the short format
data_lines_lem : (ws : List ℕ) (place : ℕ) (ks : List ℕ) (after : Result Words Refusal) → number_of after ≡ 0 → place + length ks ≤ length ws
    → number_of (data_answer ks (drop place ws) after) ≡ first_number (data_lines true ws place ks)
unfolding data_answer data_lines
data_lines_lem ws place [] after z l = z ∙ sym no_lines
data_lines_lem ws place (k ∷ ks) after z l =
    let h : place < length ws = omega arith in
    let w : ℕ = get_or ws place 0 in
    rw (drop-cons ws place 0 h)
    (link (eqb (bit w 26) 0) _ DatumWithBit26 _ _ (there h (eqb (bit w 26) 1) ∙ bit_one (w / 2 ^ 26))
    (λ a. link (eqb (channel_field w) k) _ AnotherChannel _ _ (there h (not (eqb (channel_field w) k)))
    (λ b. data_lines_lem ws (suc place) ks after z (omega arith))))

-- in the long format they say nothing
no_data_lines : (ws : List ℕ) (place : ℕ) (ks : List ℕ) → first_number (data_lines false ws place ks) ≡ 0
unfolding data_lines first_number
no_data_lines ws place [] = refl
no_data_lines ws place (k ∷ ks) = no_data_lines ws (suc place) ks

module _ (st : Settings) (ws : List ℕ) where
  -- behind the header
  abbrev body_lines : List TableLine
  body_lines = given 20 (ltb (length ws) (event_length st)) ∷ data_lines st.short ws (header_length st) (enabled_channels st.enable)

  body_lines_lem : number_of (body_answer st ws) ≡ first_number body_lines
  unfolding body_answer
  body_lines_lem = link (leb (event_length st) (length ws)) _ WordsEnd _ _ (above (length ws) (event_length st)) (λ a. go st.short (leb-true _ _ a))
    where
      go : (t : Bool) → event_length st ≤ length ws
          → number_of (cond t (data_answer (enabled_channels st.enable) (drop (header_length st) ws) (gives_length st)) (gives_length st))
          ≡ first_number (data_lines t ws (header_length st) (enabled_channels st.enable))
      go true l = data_lines_lem ws (header_length st) (enabled_channels st.enable) (gives_length st) refl (omega (arith, length_enabled 32 0 st.enable))
      go false l = sym (no_data_lines ws (header_length st) (enabled_channels st.enable))

  -- from the header on, where there is a word
  header_lines : 0 < length ws → (t : Bool)
      → number_of (cond t (header_answer st (get_or ws 0 0) (body_answer st ws)) (body_answer st ws))
      ≡ first_number (
      given 21 (t && holds_at ws 0 (λ header. eqb (bit header 26) 0))
      ∷ given 26 (t && holds_at ws 0 (λ header. not (eqb (bit header 25) 0 && eqb (bit header 24) 0)))
      ∷ given 22 (t && holds_at ws 0 (λ header. ltb 32 (count_field header)))
      ∷ given 25 (t && holds_at ws 0 (λ header. not (eqb (count_field header) (length (enabled_channels st.enable)))))
      ∷ body_lines)
  header_lines h false = body_lines_lem ∙ sym (no_header_lines body_lines)
  header_lines h true =
      let w : ℕ = get_or ws 0 0 in
      link (eqb (bit w 26) 1) _ NotAHeader _ _ (there h (eqb (bit w 26) 0) ∙ bit_zero (w / 2 ^ 26))
      (λ a. link (eqb (w / 2 ^ 24 % 4) 0) _ Bits25And24 _ _ (there h (not (eqb (bit w 25) 0 && eqb (bit w 24) 0)) ∙ ap not (both_zero w))
      (λ b. link (leb (count_field w) 32) _ CountAbove32 _ _ (there h (ltb 32 (count_field w)) ∙ above 32 (count_field w))
      (λ c. link (eqb (count_field w) (ones_in 32 st.enable)) _ AnotherCount _ _
      (there h (not (eqb (count_field w) (length (enabled_channels st.enable)))) ∙ ap (λ (n : ℕ). not (eqb (count_field w) n)) (length_enabled 32 0 st.enable))
      (λ d. body_lines_lem))))

  pub read_number_is : number_of (read_answer st ws) ≡ first_number (read_lines st ws)
  unfolding read_answer read_lines
  read_number_is =
      link (ltb 0 (event_length st)) _ NoWords _ _ (is_none (event_length st))
      (λ a. link (ltb 0 (length ws)) _ WordsEnd _ _ (is_none (length ws))
      (λ b. header_lines (ltb-true 0 (length ws) b) st.header))

-- ---- the writer
-- one count more: f is that it is below 2^26, d that its channel is disabled, z that it is 0
one_more : (short f d z rest big disabled : Bool) → not rest ≡ (short && big || disabled)
    → not (cond short f true && cond d z true && rest) ≡ (short && (not f || big) || (d && not z || disabled))
one_more true true true true rest big disabled e = e
one_more true true true false rest true disabled e = refl
one_more true true true false rest false disabled e = refl
one_more true true false z rest big disabled e = e
one_more true false d z rest big disabled e = refl
one_more false f true true rest big disabled e = e
one_more false f true false rest big disabled e = refl
one_more false f false z rest big disabled e = e

nothing_more_lem : (short : Bool) → false ≡ (short && false || false)
nothing_more_lem true = refl
nothing_more_lem false = refl

count_lines : (short : Bool) (x k : ℕ) (cs : List ℕ) → not (counts_fit short (x / 2 ^ k) cs)
    ≡ (short && some_count (λ j c. leb (2 ^ 26) c) k cs || some_count (λ j c. eqb (bit x j) 0 && not (eqb c 0)) k cs)
unfolding counts_fit some_count
count_lines short x k [] = nothing_more_lem short
count_lines short x k (c ∷ cs) =
    let half : x / 2 ^ k / 2 ≡ x / 2 ^ suc k = div-div-eq-div-mul x (2 ^ k) 2 ∙ ap (λ (d : ℕ). x / d) (sym (pow-suc 2 k)) in
    rw (half, at_least (2 ^ 26) c)
    (one_more short (ltb c (2 ^ 26)) (eqb (bit x k) 0) (eqb c 0) (counts_fit short (x / 2 ^ suc k) cs) _ _ (count_lines short x (suc k) cs))

-- not all of three
three_not : (a b c : Bool) → (not a || not b || not c) ≡ not (a && b && c)
three_not true true c = refl
three_not true false c = refl
three_not false b c = refl

-- fields, header fields and counts, in the definition's order and in the line's
parts_not : (f z w : Bool) → (not f || not w || not z) ≡ not (f && z && w)
parts_not true true true = refl
parts_not true true false = refl
parts_not true false true = refl
parts_not true false false = refl
parts_not false z w = refl

headerless : (t z : Bool) → (not t && not z) ≡ not (cond t true z)
headerless true z = refl
headerless false z = refl

pub not_writable : (st : Settings) (ev : Event) → wrong_event st ev ≡ not (writable st ev)
unfolding wrong_event writable
not_writable st ev =
    rw (
      above 31 ev.geo,
      above 3 ev.source,
      above 65535 ev.trigger,
      three_not (leb ev.geo 31) (leb ev.source 3) (leb ev.trigger 65535),
      three_not (eqb ev.geo 0) (eqb ev.source 0) (eqb ev.trigger 0),
      headerless st.header (fields_zero ev),
      ← count_lines st.short st.enable 0 ev.counts,
      div-one st.enable,
    )
    (parts_not (fields_fit ev) (cond st.header true (fields_zero ev)) (counts_fit st.short st.enable ev.counts))

pub write_number_is : (st : Settings) (ev : Event) (lent : List ℕ) → number_of (write_answer st ev lent) ≡ first_number (write_lines st ev lent)
unfolding write_answer write_lines
write_number_is st ev lent =
    link (ltb 0 (event_length st)) _ NoWords _ _ (is_none (event_length st))
    (λ a. link (writable st ev) _ NotAnEvent _ _ (not_writable st ev)
    (λ b. link (leb (event_length st) (length lent)) _ TooFewLent _ _ (above (length lent) (event_length st)) (λ c. sym no_lines)))

-- ---- the theorems
data_numbered : (short : Bool) (ws : List ℕ) (place : ℕ) (ks : List ℕ) → Numbered (data_lines short ws place ks)
unfolding data_lines
data_numbered short ws place [] = end
data_numbered short ws place (k ∷ ks) = some (some (data_numbered short ws (suc place) ks))

read_numbered : (st : Settings) (ws : List ℕ) → Numbered (read_lines st ws)
unfolding read_lines
read_numbered st ws =
    some (some (some (some (some (some (some (data_numbered st.short ws (header_length st) (enabled_channels st.enable))))))))

write_numbered : (st : Settings) (ev : Event) (lent : List ℕ) → Numbered (write_lines st ev lent)
unfolding write_lines
write_numbered st ev lent = some (some (some end))

pub read_exact : (st : Settings) (ws : List ℕ) → Exact (number_of (read_answer st ws)) (read_lines st ws)
read_exact st ws = exact (read_lines st ws) (read_numbered st ws) (read_number_is st ws)

pub write_exact : (st : Settings) (ev : Event) (lent : List ℕ) → Exact (number_of (write_answer st ev lent)) (write_lines st ev lent)
write_exact st ev lent = exact (write_lines st ev lent) (write_numbered st ev lent) (write_number_is st ev lent)
