-- The first i words are stored; a turn stores one more. Assumes nothing.
use Rattle.std.proofs.Common.{◌≡◌, length, take}
use Rattle.head.specs.Heads.{up_from}
use Rattle.makeblock.proofs.first_words.Given as goal

abbrev pub invariant-loop-i : goal.invariant-loop-i
invariant-loop-i l = (length l.word-items ≡ 64) × (take l.i l.word-items ≡ take l.i (up_from 64 1))
