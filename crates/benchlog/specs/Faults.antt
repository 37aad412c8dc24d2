-- Document 01, "Numbers that come back": those of the log reader. Assumes nothing.
use Rattle.std.specs.Prelude.{ℕ}
use Rattle.benchlog.specs.declared.Fault.{Fault}
use Rattle.benchlog.specs.declared.Fault.TheVariants.{Ends, NotShortest, TooLarge, NoSuchKind, OutOfRange}

-- 30: log ends inside an entry; 31: a number not in its shortest form; 32: a number above 2^32 - 1; 33: entry kind
-- above 7; 34: argument outside its range
abbrev pub fault_number : Fault → ℕ
fault_number Ends = 30
fault_number NotShortest = 31
fault_number TooLarge = 32
fault_number NoSuchKind = 33
fault_number OutOfRange = 34
