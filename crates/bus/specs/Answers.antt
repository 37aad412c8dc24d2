-- Document 01, "Numbers that come back": those that a module gives. Assumes nothing.
use Rattle.std.specs.Prelude.{ℕ, Bool, true, false, cond, ◌&&◌, not, Result, Ok, Err}
use Rattle.bus.specs.declared.Reply.{Reply}
use Rattle.bus.specs.declared.Refusal.{Refusal}
use Rattle.bus.specs.declared.Refusal.TheVariants.{NotInTable, WrongWidth, WrongDirection, NoMeaning, NothingStored, WordsStored, NotRandom, NoWords, TooFewFree, WrongMemory, NoChannel, Malformed}

-- what a module answers: the value read, or why it refuses
abbrev pub Answer : Type 0
Answer = Result ℕ Refusal

-- the number of a refusal
abbrev pub refusal_number : Refusal → ℕ
refusal_number NotInTable = 1
refusal_number WrongWidth = 2
refusal_number WrongDirection = 3
refusal_number NoMeaning = 4
refusal_number NothingStored = 5
refusal_number WordsStored = 6
refusal_number NotRandom = 7
refusal_number NoWords = 8
refusal_number TooFewFree = 9
refusal_number WrongMemory = 10
refusal_number NoChannel = 11
refusal_number Malformed = 12

-- the number of an answer; 0 when done ("0 when done", document 02, M-100)
abbrev pub number_of : Answer → ℕ
number_of (Ok v) = 0
number_of (Err why) = refusal_number why

-- "Every one returns its number, value 0"
abbrev pub value_of : Answer → ℕ
value_of (Ok v) = v
value_of (Err why) = 0

abbrev pub reply_of : Answer → Reply
reply_of a = record { number = number_of a; value = value_of a }

-- whether a call is done, and not refused
abbrev pub is_done : Answer → Bool
is_done (Ok v) = true
is_done (Err why) = false

-- of n pulses those that are admitted: "A pulse on an input is admitted if its call is not refused and the module is
-- not inhibited"
abbrev pub admitted : Answer → Bool → ℕ → ℕ
admitted answer inhibited n = cond (is_done answer && not inhibited) n 0
