-- The lines of document 01's table "Numbers that come back" that the log reader gives, 30 to 34, each with what it is
-- "Given exactly when", and "Log: left to right, the first fault found". They are written from the paper's sentences
-- and not from the reader's definitions, of which they use only the number at a place; proofs/ExactNumerals.antt and
-- ExactFaults.antt show that the reader gives exactly these. Assumes nothing.
use Rattle.std.specs.Prelude.{ℕ, ◌+◌, ◌^◌, ◌≤◌, ◌<◌, ◌≡◌, Bool, true, false, cond, ◌||◌, List, eqb, ltb, leb, length, get_or}
use Rattle.benchlog.specs.declared.Fault.{Fault}
use Rattle.benchlog.specs.declared.Fault.TheVariants.{Ends, NotShortest, TooLarge, NoSuchKind, OutOfRange}
use Rattle.benchlog.specs.Number.{numeral, number_at}

-- ---- a number
-- "the top bit saying that more follows": the g bytes from `at` on are there, and each has its top bit
abbrev pub MoreFollow : List ℕ → ℕ → ℕ → Type 0
MoreFollow log at g = (i : ℕ) → i < g → (at + i < length log) × (0x7F < get_or log (at + i) 0)

-- 30: the log ends where a first group, or one that follows, must stand; a number has five bytes at most
-- 31: "a last group of 0 that is not the first"
-- 32: "A fifth byte above 0F"
pub data NumberFault (log : List ℕ) (at : ℕ) : Fault → Type 0 where
  ends : (g : ℕ) → g ≤ 4 → MoreFollow log at g → length log ≤ at + g → NumberFault log at Ends
  not_shortest : (g : ℕ) → 1 ≤ g → g ≤ 4 → MoreFollow log at g → at + g < length log → get_or log (at + g) 0 ≡ 0 → NumberFault log at NotShortest
  too_large : MoreFollow log at 4 → at + 4 < length log → 0x0F < get_or log (at + 4) 0 → NumberFault log at TooLarge

-- ---- the arguments of an entry
-- what must follow: nothing more, or an argument in this range and, by its value, what follows it
pub data Arguments : Type 0 where
  nothing_more : Arguments
  argument : (ℕ → Bool) → (ℕ → Arguments) → Arguments

-- "offset below 65,536, width 16 or 32", and, by the width, what follows
abbrev pub offset_and_width : (ℕ → Arguments) → Arguments
offset_and_width after = argument (λ offset. ltb offset 65536) (λ offset. argument (λ width. eqb width 16 || eqb width 32) after)

-- "Kinds: 0 pulse (channel to 31, how many); 1 veto line (0 or 1); 2 TEST; 3 CLEAR; 4 TRIGGER; 5 read (offset below
-- 65,536, width 16 or 32); 6 write (offset, width, data that fits it); 7 MAN CLR."
unfoldable pub arguments_of : ℕ → Arguments
arguments_of kind =
    cond (eqb kind 0) (argument (λ channel. leb channel 31) (λ channel. argument (λ n. true) (λ n. nothing_more)))
    (cond (eqb kind 1) (argument (λ line. eqb line 0 || eqb line 1) (λ line. nothing_more))
    (cond (eqb kind 5) (offset_and_width (λ width. nothing_more))
    (cond (eqb kind 6) (offset_and_width (λ width. argument (λ d. ltb d (2 ^ width)) (λ d. nothing_more)))
    nothing_more)))

-- a fault in the arguments that stand from `at` on: the number of the first is at fault; 34: "argument outside its
-- range"; or the first is right, and the fault is in what follows it
pub data ArgumentFault (log : List ℕ) : ℕ → Arguments → Fault → Type 0 where
  in_number : {at : ℕ} {in_range : ℕ → Bool} {after : ℕ → Arguments} {fault : Fault}
      → NumberFault log at fault → ArgumentFault log at (argument in_range after) fault
  outside : {at v next : ℕ} {in_range : ℕ → Bool} {after : ℕ → Arguments}
      → number_at log at ≡ numeral v next → in_range v ≡ false → ArgumentFault log at (argument in_range after) OutOfRange
  further : {at v next : ℕ} {in_range : ℕ → Bool} {after : ℕ → Arguments} {fault : Fault}
      → number_at log at ≡ numeral v next → in_range v ≡ true → ArgumentFault log next (after v) fault → ArgumentFault log at (argument in_range after) fault

-- ---- an entry: a fault in the number of its kind; 33: "entry kind above 7"; or a fault in the arguments of its kind
pub data EntryFault (log : List ℕ) (at : ℕ) : Fault → Type 0 where
  in_kind : {fault : Fault} → NumberFault log at fault → EntryFault log at fault
  no_such_kind : {kind next : ℕ} → number_at log at ≡ numeral kind next → 7 < kind → EntryFault log at NoSuchKind
  in_arguments : {kind next : ℕ} {fault : Fault}
      → number_at log at ≡ numeral kind next → kind ≤ 7 → ArgumentFault log next (arguments_of kind) fault → EntryFault log at fault
