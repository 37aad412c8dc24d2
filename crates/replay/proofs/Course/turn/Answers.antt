-- What is used of the buffer lies within what it has. Assumes nothing.
use Rattle.std.proofs.Common.{◌≡◌, ℕ, ◌+◌, ◌-◌, ◌^◌, ◌<◌, ◌≤◌, Bool, List, length, take, drop, length-drop, length-take-le, arith, rules}
use Rattle.meb.specs.Ring.{Memory, lent}
use Rattle.night.specs.declared.Night.{Night}
use Rattle.night.specs.declared.Part.{Part}
use Rattle.night.specs.Runs.{part_of, replay_for}
use Rattle.night.proofs.Going.{part_used}
use Rattle.stdio.proofs.Keeping.{written_same}
use Rattle.replay.proofs.Course.turn.Goals as goal

within : (out : List ℕ) (last : Bool) (used have : ℕ) (buf : List ℕ) (n : Night) (memory : Memory) (p : Part) → used ≤ have → have ≤ length buf
    → p ≡ part_of (replay_for out last (take (have - used) (drop used buf)) n memory)
    → used + p.used ≤ have
within out last used have buf n memory p h k e =
    omega (
      arith,
      h,
      part_used p out last (take (have - used) (drop used buf)) n memory e,
      length-take-le (have - used) (drop used buf) (omega (arith, k, length-drop used buf)),
    )

pub overflow_add-shown : goal.overflow_add-shown
overflow_add-shown c =
    let s = c.args.self.now in
    let l = s.listing in
    let w = within s.out.now l.ended l.used l.have s.buf.now s.night (lent s.memory.now) c.replay-part.result s.used s.had c.replay-part.ensures.0 in
    let f : l.have < 2 ^ 64 = search rules in
    omega (arith, w, f)

pub invariant_of-self-2-clause-used : goal.invariant_of-self-2-clause-used
invariant_of-self-2-clause-used c =
    let s = c.args.self.now in
    let l = s.listing in
    let p = c.replay-part.result in
    let w = within s.out.now l.ended l.used l.have s.buf.now s.night (lent s.memory.now) p s.used s.had c.replay-part.ensures.0 in
    let same = written_same (record l { used = l.used + p.used; at = p.at }) c.flush-self.result c.flush-self.result.amiss c.flush-self.ensures in
    rw (same.0, same.1) w
