use Rattle.layout.proofs.Data.{counts_next, counts_over}
use Rattle.layout.proofs.Turns.{channel_below}
use Rattle.layout.proofs.reader.decoded_counts.Goals as goal

pub bounds-counts-channel : goal.bounds-counts-channel
bounds-counts-channel c = channel_below _ _ _ c.in-Some.ensures.steps.0

pub loop-channel-preserved : goal.loop-channel-preserved
loop-channel-preserved c = rw c.count_in.ensures (counts_next _ _ _ c.loop-channel.invariant c.in-Some.ensures.steps)

pub returns : goal.returns
returns c = counts_over _ _ _ c.loop-channel.invariant c.in-None.ensures.steps
