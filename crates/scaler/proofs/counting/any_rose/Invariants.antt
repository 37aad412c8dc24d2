-- The invariant: the channels that are left to look through give what all sixteen give. Assumes nothing.
use lib.ListN.{get_or}
use Rattle.scaler.specs.Calls.{rise_of}
use Rattle.scaler.proofs.Any.{Looking}
use Rattle.scaler.proofs.counting.any_rose.Given as goal

abbrev pub invariant-loop-k : goal.invariant-loop-k
invariant-loop-k g l = Looking (λ k. rise_of (g.M.Scaler.own.watched l.s k) (get_or l.before k 0) (get_or l.after k 0)) 16 l.k
