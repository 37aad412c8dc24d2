-- Where so many are free a memory of some words gets them, and one of none has none to get. Assumes nothing.
use mathlib.Core.Path.{◌≡◌, sym, ◌∙◌}
use Prim.Native.Nat.{◌+◌, ◌-◌}
use lib.ListN.{length}
use Rattle.meb.specs.Ring.{put_round}
use Rattle.meb.proofs.RingLaws.{put_nowhere}
use borrow.Author.Tests.{le-leb}
use borrow.Author.Rules.{rules}
use Rattle.meb.proofs.Store.put.Goals as goal
use Rattle.meb.proofs.Store.put.Goals.{then-not-is_empty, else-not-is_empty}

pub returns : goal.returns
returns c =
    let a = c.args in
    let enough = le-leb (length a.words.now) (a.self.capacity.0 - a.self.stored.0) (search rules) in
    let put : c.if-not-is_empty.memory ≡ put_round (length a.memory.now) a.memory.now (a.self.first + a.self.stored.0) a.words.now =
    elim c.if-not-is_empty.branch [
      | then-not-is_empty w ↦ w.memory-is ∙ w.put_round.ensures
      | else-not-is_empty w ↦
          w.memory-is ∙ sym (put_nowhere (length a.memory.now) a.memory.now (a.self.first + a.self.stored.0) a.words.now (search rules))
    ] in
    (rw enough, rw enough put)
