-- The four digits, by the clauses of `word_of`. Assumes nothing.
use Rattle.std.proofs.Common.{arith}
use Rattle.night.specs.Tallies.{word_of}
use Rattle.night.proofs.tally.four.Goals as goal

pub returns : goal.returns
unfolding word_of
returns c = (omega arith, omega arith)
