-- Document 01, "Numbers that come back": those of the block reader and writer. Assumes nothing.
use Rattle.std.specs.Prelude.{ℕ, Bool, cond, Result, Ok, Err, eqb}
use Rattle.layout.specs.declared.Refusal.{Refusal}
use Rattle.layout.specs.declared.Refusal.TheVariants.{NoWords, WordsEnd, NotAHeader, CountAbove32, DatumWithBit26, AnotherChannel, AnotherCount, Bits25And24, TooFewLent, NotAnEvent}
use Rattle.layout.specs.declared.Reply.{Reply}
use Rattle.layout.specs.declared.Settings.{Settings}
use Rattle.layout.specs.declared.Words.{Words}
use Rattle.layout.specs.Length.{words, event_length}

-- the number of a refusal
abbrev pub refusal_number : Refusal → ℕ
refusal_number NoWords = 8
refusal_number WordsEnd = 20
refusal_number NotAHeader = 21
refusal_number CountAbove32 = 22
refusal_number DatumWithBit26 = 23
refusal_number AnotherChannel = 24
refusal_number AnotherCount = 25
refusal_number Bits25And24 = 26
refusal_number TooFewLent = 27
refusal_number NotAnEvent = 28

-- the number of an answer; 0 when done
abbrev pub number_of : Result Words Refusal → ℕ
number_of (Ok length) = 0
number_of (Err why) = refusal_number why

-- "Every one returns its number, value 0"; done, the value is the event's length
abbrev pub value_of : Result Words Refusal → ℕ
value_of (Ok length) = length.0
value_of (Err why) = 0

abbrev pub reply_of : Result Words Refusal → Reply
reply_of a = record { number = number_of a; value = value_of a }

-- "it gives the event's length"; "The writer gives the length too"
abbrev pub gives_length : Settings → Result Words Refusal
gives_length st = Ok (words (event_length st))

-- nothing is refused so far
abbrev pub passed : Result (Unit {0}) Refusal
passed = Ok tt

-- a link of the chain of refusals: `why`, unless this holds; else what comes after it
abbrev pub unless : {A : Type 0} → Bool → Refusal → Result A Refusal → Result A Refusal
unless holds why after = cond holds after (Err why)

-- whether an answer is no refusal
abbrev pub no_refusal : Result Words Refusal → Bool
no_refusal a = eqb (number_of a) 0
