-- What an answer without refusal says of the block read, and of the event written. Assumes nothing.
use mathlib.Core.Path.{◌≡◌, refl, sym, ◌∙◌}
use mathlib.Core.Bool.{Bool, true, false, cond, ◌&&◌, false≢true}
use mathlib.Core.List.{List, [], ◌∷◌}
use Prim.Native.Nat.{ℕ, ◌/◌, ◌%◌, ◌^◌, ◌≤◌, ◌<◌}
use native.Mathlib.Omega.{arith}
use borrow.Author.Tests.{eqb-true, ltb-true, leb-true, eq-eqb, le-leb}
use lib.Count.{ones_in}
use lib.Dec.{eqb, ltb, leb}
use lib.ListN.{length, get_or, drop}
use Rattle.std.specs.Prelude.{Result, Ok, Err}
use Rattle.layout.specs.declared.Refusal.{Refusal}
use Rattle.layout.specs.declared.Words.{Words}
use Rattle.layout.specs.declared.Refusal.TheVariants.{NoWords, WordsEnd, NotAHeader, CountAbove32, DatumWithBit26, AnotherChannel, AnotherCount, Bits25And24, TooFewLent, NotAnEvent}
use Rattle.layout.specs.declared.Event.{Event}
use Rattle.layout.specs.declared.Settings.{Settings}
use Rattle.layout.specs.Length.{event_length, header_length, enabled_channels}
use Rattle.layout.specs.Numbers.{passed, gives_length, unless, no_refusal}
use Rattle.layout.specs.Reader.{header_answer, datum_answer, data_answer, body_answer, read_answer}
use Rattle.layout.specs.Writer.{fields_fit, fields_zero, counts_fit, writable, write_answer}
use Rattle.layout.proofs.Lengths.{some}

-- of a link of a chain that refuses nothing, the condition holds
pub if_so : (t : Bool) (x : Result Words Refusal) (why : Refusal) → no_refusal (Err why) ≡ false → no_refusal (unless t why x) ≡ true
    → (t ≡ true) × (no_refusal x ≡ true)
if_so true x why r d = (refl, d)
if_so false x why r d = absurd (false≢true (sym r ∙ d))

-- what has words has not 0
lt_ne : {n : ℕ} → 0 < n → n ≡ 0 → ⊥
lt_ne h e = omega arith

-- ---- what a step answers with nothing behind it, beside the whole: on to the rest, or the refusal
abbrev pub Onward : {A : Type 0} → Result (Unit {0}) Refusal → Result A Refusal → Result A Refusal → Type 0
Onward (Ok nothing) whole rest = whole ≡ rest
Onward (Err why) whole rest = whole ≡ Err why

link_onward : {A : Type 0} (t : Bool) (why : Refusal) (step : Result (Unit {0}) Refusal) (whole rest : Result A Refusal) → Onward step whole rest
    → Onward (unless t why step) (unless t why whole) rest
link_onward true why step whole rest h = h
link_onward false why step whole rest h = refl

pub datum_onward : {A : Type 0} (k w : ℕ) (rest : Result A Refusal) → Onward (datum_answer k w passed) (datum_answer k w rest) rest
datum_onward k w rest =
    link_onward (eqb (w / 2 ^ 26 % 2) 0) DatumWithBit26 _ _ rest
    (link_onward (eqb (w / 2 ^ 27) k) AnotherChannel passed rest rest refl)

pub data_onward : {A : Type 0} (ks ws : List ℕ) (rest : Result A Refusal) → Onward (data_answer ks ws passed) (data_answer ks ws rest) rest
unfolding data_answer
data_onward [] ws rest = refl
data_onward (k ∷ ks) [] rest = refl
data_onward (k ∷ ks) (w ∷ ws) rest =
    link_onward (eqb (w / 2 ^ 26 % 2) 0) DatumWithBit26 _ _ rest
    (link_onward (eqb (w / 2 ^ 27) k) AnotherChannel _ _ rest (data_onward ks ws rest))

-- ---- the reader
-- a header that is right: bit 26 one, bits 25 and 24 zero, the number of enabled channels
abbrev pub GoodHeader : Settings → ℕ → Type 0
GoodHeader st h = (h / 2 ^ 26 % 2 ≡ 1) × (h / 2 ^ 24 % 4 ≡ 0) × (h / 2 ^ 18 % 64 ≡ ones_in 32 st.enable)

header_done : (st : Settings) (h : ℕ) (rest : Result Words Refusal) → no_refusal (header_answer st h rest) ≡ true → GoodHeader st h × (no_refusal rest ≡ true)
header_done st h rest d =
    let n : ℕ = h / 2 ^ 18 % 64 in
    let a = if_so (eqb (h / 2 ^ 26 % 2) 1) _ NotAHeader refl d in
    let b = if_so (eqb (h / 2 ^ 24 % 4) 0) _ Bits25And24 refl a.1 in
    let e = if_so (leb n 32) _ CountAbove32 refl b.1 in
    let f = if_so (eqb n (ones_in 32 st.enable)) rest AnotherCount refl e.1 in
    ((eqb-true _ _ a.0, eqb-true _ _ b.0, eqb-true _ _ f.0), f.1)

-- the words reach to the event's end, and in the short format the data are right
pub body_done : (st : Settings) (ws : List ℕ) → no_refusal (body_answer st ws) ≡ true
    → (event_length st ≤ length ws) × (no_refusal (cond st.short (data_answer (enabled_channels st.enable) (drop (header_length st) ws) (gives_length st)) (gives_length st)) ≡ true)
unfolding body_answer
body_done st ws d = let a = if_so (leb (event_length st) (length ws)) _ WordsEnd refl d in (leb-true _ _ a.0, a.1)

-- the event has words, its header, where it has one, is right, and so is what is behind it
pub read_done : (st : Settings) (ws : List ℕ) → no_refusal (read_answer st ws) ≡ true
    → (event_length st ≡ 0 → ⊥) × (st.header ≡ true → GoodHeader st (get_or ws 0 0)) × (no_refusal (body_answer st ws) ≡ true)
unfolding read_answer
read_done st ws d =
    let a = if_so (ltb 0 (event_length st)) _ NoWords refl d in
    let b = if_so (ltb 0 (length ws)) _ WordsEnd refl a.1 in
    let e = go st.header b.1 in
    (lt_ne (ltb-true _ _ a.0), e.0, e.1)
  where
    go : (t : Bool) → no_refusal (cond t (header_answer st (get_or ws 0 0) (body_answer st ws)) (body_answer st ws)) ≡ true
        → (t ≡ true → GoodHeader st (get_or ws 0 0)) × (no_refusal (body_answer st ws) ≡ true)
    go true d = let g = header_done st (get_or ws 0 0) (body_answer st ws) d in ((λ t. g.0), g.1)
    go false d = ((λ t. absurd (false≢true t)), d)

-- and the other way round: with nothing wrong, the reader is done
pub reads_done : (st : Settings) (ws : List ℕ) → ones_in 32 st.enable ≤ 32 → (event_length st ≡ 0 → ⊥) → event_length st ≤ length ws
    → (st.header ≡ true → GoodHeader st (get_or ws 0 0))
    → (st.short ≡ true → data_answer (enabled_channels st.enable) (drop (header_length st) ws) (gives_length st) ≡ gives_length st)
    → read_answer st ws ≡ gives_length st
unfolding read_answer body_answer
reads_done st ws o s l g e = rw (some _ s, some (length ws) (λ z. s (omega arith)), le-leb (event_length st) (length ws) l) (headed st.header g (shorter st.short e))
  where
    shorter : (t : Bool) → (t ≡ true → data_answer (enabled_channels st.enable) (drop (header_length st) ws) (gives_length st) ≡ gives_length st)
        → cond t (data_answer (enabled_channels st.enable) (drop (header_length st) ws) (gives_length st)) (gives_length st) ≡ gives_length st
    shorter true f = f refl
    shorter false f = refl

    headed : (t : Bool) {a : Result Words Refusal} → (t ≡ true → GoodHeader st (get_or ws 0 0)) → a ≡ gives_length st → cond t (header_answer st (get_or ws 0 0) a) a ≡ gives_length st
    headed true f q = let h = f refl in rw (eq-eqb _ _ h.0, eq-eqb _ _ h.1, le-leb (get_or ws 0 0 / 2 ^ 18 % 64) 32 (omega (arith, h.2)), eq-eqb _ _ h.2) q
    headed false f q = q

pub done_fits : (st : Settings) (ws : List ℕ) → no_refusal (read_answer st ws) ≡ true → event_length st ≤ length ws
done_fits st ws d = (body_done st ws (read_done st ws d).2).0

-- ---- the writer
pub both : (s t : Bool) → s && t ≡ true → (s ≡ true) × (t ≡ true)
both true t e = (refl, e)
both false t e = absurd (false≢true e)

three : (s t u : Bool) → s && t && u ≡ true → (s ≡ true) × (t ≡ true) × (u ≡ true)
three s t u e = let a = both (s && t) u e in let b = both s t a.0 in (b.0, b.1, a.1)

pub fields_fit_lem : (ev : Event) → fields_fit ev ≡ true → (ev.geo ≤ 31) × (ev.source ≤ 3) × (ev.trigger ≤ 65535)
fields_fit_lem ev e =
    let a = three (leb ev.geo 31) (leb ev.source 3) _ e in
    (leb-true _ _ a.0, leb-true _ _ a.1, leb-true _ _ a.2)

pub fields_zero_lem : (ev : Event) → fields_zero ev ≡ true → (ev.geo ≡ 0) × (ev.source ≡ 0) × (ev.trigger ≡ 0)
fields_zero_lem ev e =
    let a = three (eqb ev.geo 0) (eqb ev.source 0) _ e in
    (eqb-true _ _ a.0, eqb-true _ _ a.1, eqb-true _ _ a.2)

-- an event that can be written: its fields fit, without header they are 0, and its counts fit
pub writable_parts : (st : Settings) (ev : Event) → writable st ev ≡ true
    → (fields_fit ev ≡ true) × (cond st.header true (fields_zero ev) ≡ true) × (counts_fit st.short st.enable ev.counts ≡ true)
unfolding writable
writable_parts st ev e = three (fields_fit ev) (cond st.header true (fields_zero ev)) _ e

-- what an answer without refusal says: the event has words, can be written, and has room
pub write_done : (st : Settings) (ev : Event) (lent : List ℕ) → no_refusal (write_answer st ev lent) ≡ true
    → (event_length st ≡ 0 → ⊥) × (writable st ev ≡ true) × (event_length st ≤ length lent)
unfolding write_answer
write_done st ev lent d =
    let a = if_so (ltb 0 (event_length st)) _ NoWords refl d in
    let b = if_so (writable st ev) _ NotAnEvent refl a.1 in
    let e = if_so (leb (event_length st) (length lent)) _ TooFewLent refl b.1 in
    (lt_ne (ltb-true _ _ a.0), b.0, leb-true _ _ e.0)
