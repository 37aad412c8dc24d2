-- The invariant: the steps that are left give what all of them give. Assumes nothing.
use Rattle.std.proofs.Common.{◌≡◌, ◌+◌, drop}
use Rattle.meb.specs.Ring.{lent}
use Rattle.cases.specs.Running.{wrong_from}
use Rattle.cases.proofs.running.first_wrong.Given as goal

abbrev pub invariant-loop-k : goal.invariant-loop-k
invariant-loop-k l =
    wrong_from (l.k + 1) l.c.pulses l.b (lent l.memory) (drop l.k l.c.lines.now) ≡ wrong_from 1 l.c.pulses l.initial.b (lent l.initial.memory) l.c.lines.now
