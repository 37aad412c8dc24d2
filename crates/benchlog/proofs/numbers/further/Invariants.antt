-- A turn of the loop is one group more, by the laws of Weights. Assumes nothing.
use Rattle.benchlog.specs.Number.{groups}
use Rattle.benchlog.proofs.Weights.{Grouped}
use Rattle.benchlog.proofs.numbers.further.Given as goal

abbrev pub invariant-loop-g : goal.invariant-loop-g
invariant-loop-g l = Grouped l.log l.at (groups 3 l.log l.at 1 l.first) l.g l.sum l.scale
