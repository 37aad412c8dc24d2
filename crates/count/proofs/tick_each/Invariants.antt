-- The invariant: the counters that are ticked, and those that are left to tick, give the whole. Assumes nothing.
use mathlib.Core.Path.{◌≡◌}
use mathlib.Core.List.{◌++◌, map}
use lib.ListN.{take, drop}
use Rattle.count.specs.Counter.{bits_of, next}
use Rattle.count.proofs.tick_each.Given as goal

abbrev pub invariant-loop-count : goal.invariant-loop-count
invariant-loop-count l = take l.count-index l.counts ++ map (next (bits_of l.width)) (drop l.count-index l.counts) ≡ map (next (bits_of l.width)) l.initial.counts
