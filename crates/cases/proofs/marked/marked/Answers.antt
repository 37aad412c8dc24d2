-- Each case is what the statement says of it. Assumes nothing.
use Rattle.std.proofs.Common.{refl}
use Rattle.cases.specs.Marked.{marked}
use Rattle.cases.proofs.marked.marked.Goals as goal

pub returns : goal.returns
unfolding marked
returns c = refl
