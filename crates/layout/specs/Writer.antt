-- Document 01: the block writer. "Block writer: 8, 28, then 27." Assumes nothing.
use Rattle.std.specs.Prelude.{ℕ, ◌/◌, ◌%◌, ◌^◌, Bool, true, cond, ◌&&◌, List, [], ◌∷◌, ◌++◌, Result, eqb, ltb, leb, length, drop}
use Rattle.layout.specs.declared.Event.{Event}
use Rattle.layout.specs.declared.Refusal.{Refusal}
use Rattle.layout.specs.declared.Refusal.TheVariants.{NoWords, TooFewLent, NotAnEvent}
use Rattle.layout.specs.declared.Settings.{Settings}
use Rattle.layout.specs.declared.Words.{Words}
use Rattle.layout.specs.Layout.{event_words}
use Rattle.layout.specs.Length.{event_length}
use Rattle.layout.specs.Numbers.{gives_length, unless, no_refusal}

-- 28: "GEO above 31, source above 3, trigger number above 65,535"
abbrev pub fields_fit : Event → Bool
fields_fit ev = leb ev.geo 31 && leb ev.source 3 && leb ev.trigger 65535

-- 28: "without header a header field not 0"
abbrev pub fields_zero : Event → Bool
fields_zero ev = eqb ev.geo 0 && eqb ev.source 0 && eqb ev.trigger 0

-- 28: "a disabled channel's count not 0"; `bit` is the channel's bit of Channel Enable
abbrev pub zero_if_disabled : ℕ → ℕ → Bool
zero_if_disabled bit count = cond (eqb bit 0) (eqb count 0) true

-- 28: "short count of 2^26 or more"
abbrev pub count_fits : Bool → ℕ → ℕ → Bool
count_fits short bit count = cond short (ltb count (2 ^ 26)) true && zero_if_disabled bit count

-- that of every channel; the mask's lowest bit is the first one's
unfoldable pub counts_fit : Bool → ℕ → List ℕ → Bool
counts_fit short mask [] = true
counts_fit short mask (c ∷ cs) = count_fits short (mask % 2) c && counts_fit short (mask / 2) cs

-- whether nothing of 28 holds
unfoldable pub writable : Settings → Event → Bool
writable st ev = fields_fit ev && cond st.header true (fields_zero ev) && counts_fit st.short st.enable ev.counts

-- 8: "the event would have no words"; 28; 27: "lent words too few for the event being written"
unfoldable pub write_answer : Settings → Event → List ℕ → Result Words Refusal
write_answer st ev lent =
    unless (ltb 0 (event_length st)) NoWords
    (unless (writable st ev) NotAnEvent
    (unless (leb (event_length st) (length lent)) TooFewLent
    (gives_length st)))

-- "and changes only those words"; where it refuses, "lent memory is untouched"
unfoldable pub write_words : Settings → Event → List ℕ → List ℕ
write_words st ev lent = cond (no_refusal (write_answer st ev lent)) (event_words st ev ++ drop (event_length st) lent) lent
