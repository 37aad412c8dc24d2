-- Each turn that does not end the input, and whose read does not fail, has more of it, so that what is free of the
-- buffer falls. Assumes nothing.
use mathlib.Core.Path.{◌≡◌}
use mathlib.Core.Bool.{cond, not, ◌&&◌}
use Prim.Native.Nat.{suc, ◌-◌, ◌≤◌}
use lib.ListN.{length}
use Rattle.head.specs.Heads.{unused}
use Rattle.head.proofs.begin.Given as goal

abbrev pub invariant-loop-l : goal.invariant-loop-l
invariant-loop-l l = (length l.buf ≡ length l.initial.buf) × (l.l ≡ unused l.l.have l.l.ended l.l.amiss) × (l.l.have ≤ length l.initial.buf)

abbrev pub decreases-loop-l : goal.decreases-loop-l
decreases-loop-l l = cond (l.l.more && not l.l.ended) (suc (length l.initial.buf - l.l.have)) 0
