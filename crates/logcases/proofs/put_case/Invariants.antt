-- The listing keeps what is had of the input. Assumes nothing.
use mathlib.Core.Path.{◌≡◌}
use Rattle.logcases.proofs.put_case.Given as goal

abbrev pub invariant-loop : goal.invariant-loop
invariant-loop l = l.l.have ≡ l.initial.l.have
