-- The lines of document 01's table "Numbers that come back" that the block reader and the block writer give, each
-- with what it is "Given exactly when", in document 01's order. They are written from the table's sentences, each
-- complete by itself, and not from the chains of Reader and Writer; proofs/ExactNumbers.antt shows that those give
-- exactly these. Assumes nothing.
use Rattle.std.specs.Prelude.{ℕ, suc, ◌/◌, ◌%◌, ◌^◌, ◌≡◌, Bool, true, false, cond, not, ◌&&◌, ◌||◌, List, [], ◌∷◌, ◌↔◌, ◌≢◌, eqb, ltb, leb, length, get_or}
use Rattle.count.specs.Counter.{bit}
use Rattle.layout.specs.declared.Event.{Event}
use Rattle.layout.specs.declared.Settings.{Settings}
use Rattle.layout.specs.Length.{event_length, header_length, enabled_channels}

-- a line of the table: its number, and whether what it says holds
pub record TableLine : Type 0 where
  pub number : ℕ
  pub holds : Bool

abbrev pub given : ℕ → Bool → TableLine
given number holds = record { number = number; holds = holds }

-- the number of the first line that holds, 0 where none does
unfoldable pub first_number : List TableLine → ℕ
first_number [] = 0
first_number (l ∷ ls) = cond l.holds l.number (first_number ls)

-- "each number exactly when its line holds and no earlier one does": a line of this number holds, and no line before
-- it does
pub data First : List TableLine → ℕ → Type 0 where
  here : {l : TableLine} {ls : List TableLine} {n : ℕ} → l.holds ≡ true → l.number ≡ n → First (l ∷ ls) n
  later : {l : TableLine} {ls : List TableLine} {n : ℕ} → l.holds ≡ false → First ls n → First (l ∷ ls) n

-- no line holds
pub data NoneHolds : List TableLine → Type 0 where
  nothing : NoneHolds []
  neither : {l : TableLine} {ls : List TableLine} → l.holds ≡ false → NoneHolds ls → NoneHolds (l ∷ ls)

-- this number is what the lines say: n exactly when n's line is the first that holds, and 0 exactly when none does
pub record Exact (number : ℕ) (lines : List TableLine) : Type 0 where
  pub refused : (n : ℕ) → n ≢ 0 → (number ≡ n ↔ First lines n)
  pub not_refused : number ≡ 0 ↔ NoneHolds lines

-- ---- the block reader
-- there is a word at this place, and this holds of it
abbrev pub holds_at : List ℕ → ℕ → (ℕ → Bool) → Bool
holds_at ws place says = ltb place (length ws) && says (get_or ws place 0)

-- there is a header, the first word, and this holds of it
abbrev pub in_header : Settings → List ℕ → (ℕ → Bool) → Bool
in_header st ws says = st.header && holds_at ws 0 says

-- "23-18 channel count"
abbrev pub count_field : ℕ → ℕ
count_field header = header / 2 ^ 18 % 64

-- "31-27 channel"
abbrev pub channel_field : ℕ → ℕ
channel_field datum = datum / 2 ^ 27

-- "then data words from the first, 23 before 24": of each of these channels one datum, the first at this place
-- 23: "short-format datum with bit 26 set"; 24: "short-format datum with a channel that is not the next enabled one"
unfoldable pub data_lines : Bool → List ℕ → ℕ → List ℕ → List TableLine
data_lines short ws place [] = []
data_lines short ws place (channel ∷ channels) =
    given 23 (short && holds_at ws place (λ datum. eqb (bit datum 26) 1))
    ∷ given 24 (short && holds_at ws place (λ datum. not (eqb (channel_field datum) channel)))
    ∷ data_lines short ws (suc place) channels

-- "Block reader: 8, 20 for no words, then 21, 26, 22, 25, 20 for a short body, then data words": "the event would
-- have no words"; no words; "header without bit 26"; "header bits 25 and 24 not both 0"; "header count above 32";
-- "header count is not the number of enabled channels"; "the words end before the event does"
unfoldable pub read_lines : Settings → List ℕ → List TableLine
read_lines st ws =
    given 8 (eqb (event_length st) 0)
    ∷ given 20 (eqb (length ws) 0)
    ∷ given 21 (in_header st ws (λ header. eqb (bit header 26) 0))
    ∷ given 26 (in_header st ws (λ header. not (eqb (bit header 25) 0 && eqb (bit header 24) 0)))
    ∷ given 22 (in_header st ws (λ header. ltb 32 (count_field header)))
    ∷ given 25 (in_header st ws (λ header. not (eqb (count_field header) (length (enabled_channels st.enable)))))
    ∷ given 20 (ltb (length ws) (event_length st))
    ∷ data_lines st.short ws (header_length st) (enabled_channels st.enable)

-- ---- the block writer
-- this holds of some channel and its count; the first count is that of channel k
unfoldable pub some_count : (ℕ → ℕ → Bool) → ℕ → List ℕ → Bool
some_count says k [] = false
some_count says k (c ∷ cs) = says k c || some_count says (suc k) cs

-- 28: "GEO above 31, source above 3, trigger number above 65,535, short count of 2^26 or more, a disabled channel's
-- count not 0, or without header a header field not 0"
unfoldable pub wrong_event : Settings → Event → Bool
wrong_event st ev =
    (ltb 31 ev.geo || ltb 3 ev.source || ltb 65535 ev.trigger)
    || (st.short && some_count (λ k c. leb (2 ^ 26) c) 0 ev.counts
    || some_count (λ k c. eqb (bit st.enable k) 0 && not (eqb c 0)) 0 ev.counts)
    || (not st.header && (not (eqb ev.geo 0) || not (eqb ev.source 0) || not (eqb ev.trigger 0)))

-- "Block writer: 8, 28, then 27": 27 is "lent words too few for the event being written"
unfoldable pub write_lines : Settings → Event → List ℕ → List TableLine
write_lines st ev lent =
    given 8 (eqb (event_length st) 0)
    ∷ given 28 (wrong_event st ev)
    ∷ given 27 (ltb (length lent) (event_length st))
    ∷ []
