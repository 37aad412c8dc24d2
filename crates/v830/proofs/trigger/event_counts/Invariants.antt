-- What is taken, and what is left to take, give the whole. Assumes nothing.
use Rattle.std.proofs.Common.{◌≡◌, length}
use Rattle.v830.specs.Trigger.{event_counts}
use Rattle.count.proofs.Mapping.{Mapping}
use Rattle.v830.proofs.trigger.event_counts.Given as goal

abbrev pub invariant-loop-k : goal.invariant-loop-k
invariant-loop-k l = (length l.counts ≡ 32) × Mapping (event_counts l.short l.mask) (event_counts l.short l.enable l.initial.counts) l.counts l.k
