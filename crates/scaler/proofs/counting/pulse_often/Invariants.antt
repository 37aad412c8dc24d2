-- The invariant: the pulses so far, one after the other. Assumes nothing.
use mathlib.Core.Path.{◌≡◌}
use Rattle.count.specs.Counter.{iterate}
use Rattle.scaler.specs.Calls.{pulse}
use Rattle.scaler.proofs.counting.pulse_often.Given as goal

abbrev pub invariant-loop : goal.invariant-loop
invariant-loop g l = l.o ≡ iterate l.counter (pulse g.M.Scaler.own l.channel.number) l.initial.o
