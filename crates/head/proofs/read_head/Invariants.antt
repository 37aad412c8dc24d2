-- What the limits left give, from the place reached, is the whole head. Assumes nothing.
use mathlib.Core.Path.{◌≡◌}
use lib.ListN.{length, take}
use Rattle.head.specs.Heads.{head_from, head_of}
use Rattle.head.proofs.Turns.{left}
use Rattle.head.proofs.read_head.Given as goal

abbrev pub invariant-loop-i : goal.invariant-loop-i
invariant-loop-i l = (length l.values ≡ 40) × (head_from l.input l.after (left l.limits l.i) l.i l.values ≡ head_of l.input (take 40 l.limits))
