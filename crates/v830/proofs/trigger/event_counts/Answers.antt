-- A turn takes one count; at the end none is left. Assumes nothing.
use Rattle.std.proofs.Common.{refl, rules}
use Rattle.v830.specs.Trigger.{event_counts}
use Rattle.count.proofs.Mapping.{map_turn, map_over}
use Rattle.v830.proofs.trigger.event_counts.Goals as goal

pub loop-k-preserved : goal.loop-k-preserved
unfolding event_counts
loop-k-preserved c = let l = c.loop-k in (search rules, map_turn l.invariant.1 _ _ refl (search rules) c.event_count.ensures)

pub returns : goal.returns
unfolding event_counts
returns c = let l = c.loop-k in map_over l.invariant.1 refl (search rules)
