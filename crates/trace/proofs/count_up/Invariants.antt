-- The first k words are set; a turn sets one more. Assumes nothing.
use Rattle.std.proofs.Common.{◌≡◌, ◌≤◌, length, take}
use Rattle.head.specs.Heads.{up_from}
use Rattle.trace.proofs.count_up.Given as goal

abbrev pub invariant-loop-k : goal.invariant-loop-k
invariant-loop-k l = (length l.initial.memory ≤ 40000) × (take l.k l.memory ≡ take l.k (up_from (length l.initial.memory) 1))
