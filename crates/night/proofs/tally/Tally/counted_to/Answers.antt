-- Eight digits are four and four. Assumes nothing.
use Rattle.std.proofs.Common.{sym}
use Rattle.night.proofs.Tallying.{word_halves}
use Rattle.night.proofs.tally.Tally.counted_to.Goals as goal

pub invariant_of-result : goal.invariant_of-result
invariant_of-result c = record { right = (rw (c.four.ensures.0, c.four-2.ensures.0) (sym (word_halves c.args.number)), c.figures.ensures) }
