-- The invariant: the words that are left to put give what all of them give. Assumes nothing.
use mathlib.Core.Path.{◌≡◌}
use Prim.Native.Nat.{◌+◌}
use lib.ListN.{length, drop}
use Rattle.meb.specs.Ring.{put_round}
use Rattle.meb.proofs.put_round.Given as goal

abbrev pub invariant-loop-j : goal.invariant-loop-j
invariant-loop-j l = put_round (length l.initial.memory) l.memory (l.from + l.j) (drop l.j l.words) ≡ put_round (length l.initial.memory) l.initial.memory l.from l.words
