-- The invariant: the channels that may still be clocked give what the whole run gives. Assumes nothing.
use mathlib.Core.Path.{◌≡◌}
use Prim.Native.Nat.{◌-◌}
use lib.ListN.{length}
use Rattle.scaler.specs.Clock.{clocked}
use Rattle.v260.specs.Counting.{after, is_joined, pulsed}
use Rattle.v260.proofs.Switches.counts_after.Given as goal

abbrev pub invariant-loop : goal.invariant-loop
invariant-loop l = (length l.counts ≡ 16) × (clocked 24 (λ k. is_joined l.self (after k)) after (16 - l.counter) l.k.number l.counts ≡ pulsed l.self l.initial.counts l.initial.k.number)
