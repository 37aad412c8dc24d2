-- A refusal: the writer leaves every lent word as it was, the reader gives no event, and what is shown of it has all
-- fields 0, and either one's number comes with the value 0. That each number is given exactly when its line of document
-- 01's table holds and no earlier one does is proved in ExactNumbers. Assumes nothing.
use mathlib.Core.Path.{◌≡◌, refl, sym, ◌∙◌}
use mathlib.Core.Bool.{true, false, false≢true}
use mathlib.Core.List.{List}
use Prim.Native.Nat.{ℕ}
use Rattle.std.specs.Prelude.{Result, Ok, Err}
use Rattle.layout.specs.declared.Refusal.{Refusal}
use Rattle.layout.specs.declared.Refusal.TheVariants.{NoWords, WordsEnd, NotAHeader, CountAbove32, DatumWithBit26, AnotherChannel, AnotherCount, Bits25And24, TooFewLent, NotAnEvent}
use Rattle.layout.specs.declared.Event.{Event}
use Rattle.layout.specs.declared.Settings.{Settings}
use Rattle.layout.specs.declared.Words.{Words}
use Rattle.layout.specs.Numbers.{no_refusal, value_of}
use Rattle.layout.specs.Reader.{no_event, read_answer, event_in, with_event, read_of, answer_given, event_given}
use Rattle.layout.specs.Writer.{write_answer, write_words}

-- a refusal's number is not 0
refused_not_zero : (why : Refusal) → no_refusal (Err why) ≡ false
refused_not_zero NoWords = refl
refused_not_zero WordsEnd = refl
refused_not_zero NotAHeader = refl
refused_not_zero CountAbove32 = refl
refused_not_zero DatumWithBit26 = refl
refused_not_zero AnotherChannel = refl
refused_not_zero AnotherCount = refl
refused_not_zero Bits25And24 = refl
refused_not_zero TooFewLent = refl
refused_not_zero NotAnEvent = refl

pub refused_leaves : (st : Settings) (ev : Event) (lent : List ℕ) → no_refusal (write_answer st ev lent) ≡ false → write_words st ev lent ≡ lent
unfolding write_words
refused_leaves st ev lent r = rw r

-- what the reader answers, and its event: that of the words, or none
pub given_answer : (st : Settings) (ws : List ℕ) → answer_given (read_of st ws) ≡ read_answer st ws
unfolding read_of
given_answer st ws = go (read_answer st ws)
  where
    go : (a : Result Words Refusal) → answer_given (with_event (event_in st ws) a) ≡ a
    go (Ok length) = refl
    go (Err why) = refl

pub given_event : (st : Settings) (ws : List ℕ) → no_refusal (read_answer st ws) ≡ true → event_given (read_of st ws) ≡ event_in st ws
unfolding read_of
given_event st ws d = go (read_answer st ws) d
  where
    go : (a : Result Words Refusal) → no_refusal a ≡ true → event_given (with_event (event_in st ws) a) ≡ event_in st ws
    go (Ok length) e = refl
    go (Err why) e = absurd (false≢true (sym (refused_not_zero why) ∙ e))

pub refused_reads_nothing : (st : Settings) (ws : List ℕ) → no_refusal (read_answer st ws) ≡ false → event_given (read_of st ws) ≡ no_event
unfolding read_of
refused_reads_nothing st ws r = go (read_answer st ws) r
  where
    go : (a : Result Words Refusal) → no_refusal a ≡ false → event_given (with_event (event_in st ws) a) ≡ no_event
    go (Ok length) e = absurd (false≢true (sym e))
    go (Err why) e = refl

pub refused_value : (a : Result Words Refusal) → no_refusal a ≡ false → value_of a ≡ 0
refused_value (Ok w) r = absurd (false≢true (sym r))
refused_value (Err why) r = refl
