-- A written event reads back: where the writer does not refuse an event, the reader of the words that it leaves,
-- whatever stands behind them, gives the same answer, with the same length, and the same event: all its fields and
-- counts. In both formats, with header and without, of any Channel Enable.
--
-- What the code's types say is said here: Channel Enable has 32 bits, and an event 32 counts. Assumes nothing.
use mathlib.Core.Path.{◌≡◌, refl, sym, ap, ap₂, ◌∙◌}
use mathlib.Core.Bool.{Bool, true, false, cond, false≢true}
use mathlib.Core.List.{List, [], ◌∷◌, ◌++◌}
use Prim.Native.Nat.{ℕ, zero, suc, ◌+◌, ◌*◌, ◌/◌, ◌%◌, ◌^◌, ◌≤◌, ◌<◌}
use native.Mathlib.Omega.{arith}
use borrow.Author.Tests.{eq-eqb, eqb-true, ltb-true}
use lib.Count.{ones_in}
use lib.Dec.{ltb}
use lib.ListN.{length, get_or, drop, replicate, length-append, length-map}
use Rattle.std.specs.Prelude.{Result}
use Rattle.layout.specs.declared.Refusal.{Refusal}
use Rattle.layout.specs.declared.Words.{Words}
use Rattle.layout.proofs.Enabled.{ones_in_le}
use Rattle.layout.specs.declared.Event.{Event}
use Rattle.layout.specs.declared.Settings.{Settings}
use Rattle.layout.specs.Layout.{header_of, datum_of, data_of, event_words}
use Rattle.layout.specs.Length.{channel_if, event_length, header_length, enabled_channels}
use Rattle.layout.specs.Numbers.{gives_length, no_refusal}
use Rattle.layout.specs.Reader.{data_answer, read_answer, count_in, counts_read, event_in, with_event, read_of}
use Rattle.layout.specs.Writer.{count_fits, counts_fit, writable, write_answer, write_words}
use Rattle.layout.proofs.Answers.{GoodHeader, both, fields_fit_lem, fields_zero_lem, writable_parts, write_done, reads_done}
use Rattle.layout.proofs.Halves.{settings, data_from, count_first, counts_from, data_from_lem, counts_from_lem}
use Rattle.layout.proofs.Written.{words_length, write_answers, write_leaves}

-- ---- the data
-- a datum that was written is of its channel, and has its count
data_answered : (cs ks rest : List ℕ) (d : Result Words Refusal) → data_answer ks (data_of true cs ks ++ rest) d ≡ d
unfolding data_answer
data_answered cs [] rest d = refl
data_answered cs (k ∷ ks) rest d =
    let w : ℕ = k * 2 ^ 27 + get_or cs k 0 % 2 ^ 26 in
    let z : w / 2 ^ 26 % 2 ≡ 0 = omega arith in
    let c : w / 2 ^ 27 ≡ k = omega arith in
    rw (eq-eqb _ _ z, eq-eqb _ _ c) (data_answered cs ks rest d)

count_again : (short : Bool) (b k c : ℕ) → count_fits short (suc b) c ≡ true → count_in short (datum_of short k c) ≡ c
count_again true b k c f = let l : c < 2 ^ 26 = ltb-true _ _ (both (ltb c (2 ^ 26)) _ f).0 in omega arith
count_again false b k c f = refl

zero_again : (short : Bool) (c : ℕ) → count_fits short 0 c ≡ true → 0 ≡ c
zero_again short c f = sym (eqb-true _ _ (both (cond short (ltb c (2 ^ 26)) true) _ f).1)

counts_again : (short : Bool) (k m : ℕ) (cs rest : List ℕ) → counts_fit short m cs ≡ true → counts_from (length cs) short m (data_from short k m cs ++ rest) ≡ cs
unfolding counts_fit counts_from data_from
counts_again short k m [] rest f = refl
counts_again short k m (c ∷ cs) rest f =
    let p = both (count_fits short (m % 2) c) _ f in
    go (m % 2) p.0 (counts_again short (suc k) (m / 2) cs rest p.1)
  where
    go : (b : ℕ) → count_fits short b c ≡ true → counts_from (length cs) short (m / 2) (data_from short (suc k) (m / 2) cs ++ rest) ≡ cs
        → count_first b short (counts_from (length cs) short (m / 2)) (channel_if b (datum_of short k c) (data_from short (suc k) (m / 2) cs) ++ rest) ≡ c ∷ cs
    go zero g ih = ap₂ (λ (x : ℕ) (xs : List ℕ). x ∷ xs) (zero_again short c g) ih
    go (suc b) g ih = ap₂ (λ (x : ℕ) (xs : List ℕ). x ∷ xs) (count_again short b k c g) ih

-- the counts, over the list of the enabled channels
body_again : (short : Bool) (x : ℕ) (cs rest : List ℕ) → length cs ≡ 32 → counts_fit short x cs ≡ true
    → counts_read short (enabled_channels x) (data_of short cs (enabled_channels x) ++ rest) (replicate 32 0) ≡ cs
body_again short x cs rest l f =
    let n = length-append (data_of short cs (enabled_channels x)) rest in
    let m = length-map (enabled_channels x) (λ k. datum_of short k (get_or cs k 0)) in
    let e : data_of short cs (enabled_channels x) ≡ data_from short 0 x cs = rw l at (data_from_lem short 0 x [] cs refl) in
    counts_from_lem short 32 0 x [] (data_of short cs (enabled_channels x) ++ rest) refl (omega (arith, n, m))
    ∙ ap (λ (ds : List ℕ). counts_from 32 short x (ds ++ rest)) e
    ∙ rw l at (counts_again short 0 x cs rest f)

-- ---- the header
module _ (st : Settings) (ev : Event) (o : ones_in 32 st.enable ≤ 32) (f : (ev.geo ≤ 31) × (ev.source ≤ 3) × (ev.trigger ≤ 65535)) where
  header_good : GoodHeader st (header_of st ev)
  header_good = (omega (arith, f), omega (arith, f), omega (arith, f))

  fields_again : (header_of st ev / 2 ^ 27 ≡ ev.geo) × (header_of st ev / 2 ^ 16 % 4 ≡ ev.source) × (header_of st ev % 2 ^ 16 ≡ ev.trigger)
  fields_again = (omega (arith, f), omega (arith, f), omega (arith, f))

-- ---- the event
event_again : (header short : Bool) (x : ℕ) (ev : Event) (rest : List ℕ) → x < 2 ^ 32 → length ev.counts ≡ 32 → writable (settings header short x) ev ≡ true
    → event_in (settings header short x) (event_words (settings header short x) ev ++ rest) ≡ ev
unfolding event_in
event_again true short x ev rest h l w =
    let p = writable_parts (settings true short x) ev w in
    let f = fields_again (settings true short x) ev (ones_in_le 32 x) (fields_fit_lem ev p.0) in
    rw (f.0, f.1, f.2, body_again short x ev.counts rest l p.2)
event_again false short x ev rest h l w =
    let p = writable_parts (settings false short x) ev w in
    let z = fields_zero_lem ev p.1 in
    rw (z.0, z.1, z.2, body_again short x ev.counts rest l p.2)

short_again : (short : Bool) (x : ℕ) (cs rest : List ℕ) (d : Result Words Refusal) → short ≡ true → data_answer (enabled_channels x) (data_of short cs (enabled_channels x) ++ rest) d ≡ d
short_again true x cs rest d e = data_answered cs (enabled_channels x) rest d
short_again false x cs rest d e = absurd (false≢true e)

answer_again : (header short : Bool) (x : ℕ) (ev : Event) (rest : List ℕ) → x < 2 ^ 32 → (event_length (settings header short x) ≡ 0 → ⊥)
    → writable (settings header short x) ev ≡ true → read_answer (settings header short x) (event_words (settings header short x) ev ++ rest) ≡ gives_length (settings header short x)
answer_again header short x ev rest h s w =
    let st : Settings = settings header short x in
    let n = length-append (event_words st ev) rest in
    reads_done st (event_words st ev ++ rest) (ones_in_le 32 x) s (omega (arith, n, words_length st ev)) (first header w) (behind header)
  where
    first : (t : Bool) → writable (settings t short x) ev ≡ true → t ≡ true → GoodHeader (settings t short x) (get_or (event_words (settings t short x) ev ++ rest) 0 0)
    first true v e = header_good (settings true short x) ev (ones_in_le 32 x) (fields_fit_lem ev (writable_parts (settings true short x) ev v).0)
    first false v e = absurd (false≢true e)

    behind : (t : Bool) → short ≡ true
        → data_answer (enabled_channels x) (drop (header_length (settings t short x)) (event_words (settings t short x) ev ++ rest)) (gives_length (settings t short x)) ≡ gives_length (settings t short x)
    behind true e = short_again short x ev.counts rest (gives_length (settings true short x)) e
    behind false e = short_again short x ev.counts rest (gives_length (settings false short x)) e

-- ---- the theorem
pub written_reads_back : (st : Settings) (ev : Event) (lent : List ℕ) → st.enable < 2 ^ 32 → length ev.counts ≡ 32 → no_refusal (write_answer st ev lent) ≡ true
    → read_of st (write_words st ev lent) ≡ with_event ev (write_answer st ev lent)
unfolding read_of
written_reads_back st ev lent h l d =
    let p = write_done st ev lent d in
    let rest : List ℕ = drop (event_length st) lent in
    rw (write_leaves st ev lent p.0 p.1 p.2, write_answers st ev lent p.0 p.1 p.2)
    (rw (answer_again st.header st.short st.enable ev rest h p.0 p.1, event_again st.header st.short st.enable ev rest h l p.1))
