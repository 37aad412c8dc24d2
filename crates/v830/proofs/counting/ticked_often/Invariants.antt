-- The ticks so far, one after the other. Assumes nothing.
use Rattle.std.proofs.Common.{◌≡◌}
use Rattle.count.specs.Counter.{next, iterate}
use Rattle.v830.proofs.counting.ticked_often.Given as goal

abbrev pub invariant-loop : goal.invariant-loop
invariant-loop l = l.count ≡ iterate l.counter (next 32) l.fn.count
