-- The first i words are made; a turn makes one more. Assumes nothing.
use Rattle.std.proofs.Common.{◌≡◌, length, take}
use Rattle.blocks.specs.Words.{words_from}
use Rattle.blocks.proofs.words_of.Given as goal

abbrev pub invariant-loop-i : goal.invariant-loop-i
invariant-loop-i l = (length l.words ≡ 33) × (take l.i l.words ≡ words_from l.i l.bytes 0)
