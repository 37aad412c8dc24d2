-- The gate lets pass what is given, and the deed reads a counter that there is (`counter_narrow`). Assumes nothing.
use Rattle.meb.specs.Ring.{lent}
use Rattle.v830.proofs.Narrow.{counter_narrow, lent_right}
use Rattle.v830.proofs.calls.step_formed.Goals as goal

pub perform-requires : goal.perform-requires
perform-requires c = (c.requires.0, rw c.of_call.ensures (counter_narrow c.args.call))

pub returns : goal.returns
returns c = rw (c.requires.0, lent_right c.args.s (lent c.args.memory.now) c.args.call c.requires.1, ← c.of_call.ensures) c.perform.ensures
