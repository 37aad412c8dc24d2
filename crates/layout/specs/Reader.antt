-- Document 01: the block reader. "Block reader: 8, 20 for no words, then 21, 26, 22, 25, 20 for a short body, then
-- data words from the first, 23 before 24." Assumes nothing.
use Rattle.std.specs.Prelude.{ℕ, ◌/◌, ◌%◌, ◌^◌, Bool, cond, List, [], ◌∷◌, Result, Ok, Err, eqb, ltb, leb, length, get_or, set, drop, replicate}
use Rattle.std.specs.Int.Count.{ones_in}
use Rattle.layout.specs.declared.Event.{Event}
use Rattle.layout.specs.declared.Read.{Read}
use Rattle.layout.specs.declared.Refusal.{Refusal}
use Rattle.layout.specs.declared.Refusal.TheVariants.{NoWords, WordsEnd, NotAHeader, CountAbove32, DatumWithBit26, AnotherChannel, AnotherCount, Bits25And24}
use Rattle.layout.specs.declared.Settings.{Settings}
use Rattle.layout.specs.declared.Words.{Words}
use Rattle.layout.specs.Length.{event_length, header_length, enabled_channels}
use Rattle.layout.specs.Numbers.{gives_length, unless}

-- 21: "header without bit 26"; 26: "header bits 25 and 24 not both 0"; 22: "header count above 32"; 25: "header count
-- is not the number of enabled channels"; then `after`
abbrev pub header_answer : {A : Type 0} → Settings → ℕ → Result A Refusal → Result A Refusal
header_answer st header after =
    let count : ℕ = header / 2 ^ 18 % 64 in
    unless (eqb (header / 2 ^ 26 % 2) 1) NotAHeader
    (unless (eqb (header / 2 ^ 24 % 4) 0) Bits25And24
    (unless (leb count 32) CountAbove32
    (unless (eqb count (ones_in 32 st.enable)) AnotherCount
    after)))

-- 23: "short-format datum with bit 26 set"; 24: "short-format datum with a channel that is not the next enabled one";
-- then `after`
abbrev pub datum_answer : {A : Type 0} → ℕ → ℕ → Result A Refusal → Result A Refusal
datum_answer channel datum after =
    unless (eqb (datum / 2 ^ 26 % 2) 0) DatumWithBit26
    (unless (eqb (datum / 2 ^ 27) channel) AnotherChannel
    after)

-- the short-format data of these channels, from the first; then `after`
unfoldable pub data_answer : {A : Type 0} → List ℕ → List ℕ → Result A Refusal → Result A Refusal
data_answer [] ws after = after
data_answer (k ∷ ks) [] after = Err WordsEnd
data_answer (k ∷ ks) (w ∷ ws) after = datum_answer k w (data_answer ks ws after)

-- 20: "the words end before the event does"; then, in the short format, the data
unfoldable pub body_answer : Settings → List ℕ → Result Words Refusal
body_answer st ws =
    unless (leb (event_length st) (length ws)) WordsEnd
    (cond st.short (data_answer (enabled_channels st.enable) (drop (header_length st) ws) (gives_length st)) (gives_length st))

-- 8: "the event would have no words"; "20 for no words"; then the header, where there is one, and the body
unfoldable pub read_answer : Settings → List ℕ → Result Words Refusal
read_answer st ws =
    unless (ltb 0 (event_length st)) NoWords
    (unless (ltb 0 (length ws)) WordsEnd
    (cond st.header (header_answer st (get_or ws 0 0) (body_answer st ws)) (body_answer st ws)))

-- "Long: 32 bits. Short: .. 25-0 the count"
abbrev pub count_in : Bool → ℕ → ℕ
count_in short datum = cond short (datum % 2 ^ 26) datum

-- the counts with those of the data at their channels; for each channel there is a word, since 20 is looked at before
unfoldable pub counts_read : Bool → List ℕ → List ℕ → List ℕ → List ℕ
counts_read short [] ws counts = counts
counts_read short (k ∷ ks) [] counts = counts
counts_read short (k ∷ ks) (w ∷ ws) counts = counts_read short ks ws (set counts k (count_in short w))

-- all fields 0
abbrev pub no_event : Event
no_event = record { geo = 0; source = 0; trigger = 0; counts = replicate 32 0 }

-- "Without header, the header fields read as 0"; a disabled channel's count is 0
unfoldable pub event_in : Settings → List ℕ → Event
event_in st ws =
    let header : ℕ = cond st.header (get_or ws 0 0) 0 in
    record {
      geo = header / 2 ^ 27;
      source = header / 2 ^ 16 % 4;
      trigger = header % 2 ^ 16;
      counts = counts_read st.short (enabled_channels st.enable) (drop (header_length st) ws) (replicate 32 0);
    }

-- the event is given with its length, and none where the reader refuses
abbrev pub with_event : Event → Result Words Refusal → Result Read Refusal
with_event event (Ok length) = Ok (record { length = length; event = event })
with_event event (Err why) = Err why

unfoldable pub read_of : Settings → List ℕ → Result Read Refusal
read_of st ws = with_event (event_in st ws) (read_answer st ws)

-- the answer of a reading, and its event: "block reader: all fields 0", where it refuses
abbrev pub answer_given : Result Read Refusal → Result Words Refusal
answer_given (Ok read) = Ok read.length
answer_given (Err why) = Err why

abbrev pub event_given : Result Read Refusal → Event
event_given (Ok read) = read.event
event_given (Err why) = no_event
