-- The deed reads a counter that there is (`counter_narrow`). Assumes nothing.
use Rattle.std.proofs.Common.{ap}
use mathlib.Core.Bool.{not}
use Rattle.count.proofs.Tests.{holds}
use Rattle.v830.proofs.Narrow.{counter_narrow}
use Rattle.v830.proofs.calls.step.Goals as goal

pub perform-requires : goal.perform-requires
perform-requires c = (holds c.is_formed.ensures (ap not c.if-not-is_formed.false), rw c.of_call.ensures (counter_narrow c.args.call))
