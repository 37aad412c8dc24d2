-- A channel that does not carry, or whose next is not joined, ends the run. Assumes nothing.
use mathlib.Core.Path.{◌≡◌, sym, ap, ◌∙◌}
use mathlib.Core.Bool.{true, false, not, ◌&&◌}
use lib.ListN.{get_or, length-set}
use borrow.Author.Rules.{rules}
use Rattle.count.specs.declared.Ticked.{Ticked}
use Rattle.count.specs.Counter.{carries}
use Rattle.count.proofs.Tests.{holds, fails}
use Rattle.scaler.specs.Clock.{count_one}
use Rattle.scaler.proofs.Clocks.{clocked_stops, clocked_on, clocked_over}
use Rattle.v260.specs.Counting.{after, is_joined, pulsed}
use Rattle.v260.proofs.Switches.counts_after.Goals.{then-not-ticked-via-then-not-ticked, then-not-ticked-via-else-not-ticked+then-not-is_joined}
use Rattle.v260.proofs.Switches.counts_after.Goals as goal

pub returns-then-not-ticked : goal.returns-then-not-ticked
returns-then-not-ticked c =
    let t = c.tick-ticked in
    let l = c.loop in
    let joins = λ (k : _). is_joined c.args.self (after k) in
    let stops : carries 24 (get_or l.counts l.k.number 0) && joins l.k.number ≡ false → count_one 24 l.k.number l.counts ≡ pulsed c.args.self c.args.counts c.args.channel.number =
    λ e. sym (clocked_stops 24 joins after 16 l.counter l.k.number l.counts (search rules) e) ∙ l.invariant.1 in
    rw t.ensures (stops (elim c.then-not-ticked.branch [
      | then-not-ticked-via-then-not-ticked w ↦ rw (fails (ap (λ (t : Ticked). t.carry) t.ensures) w.if-not-ticked.true)
      | then-not-ticked-via-else-not-ticked+then-not-is_joined w ↦ rw (holds (ap (λ (t : Ticked). t.carry) t.ensures) w.if-not-ticked.false, fails w.is_joined.ensures (ap not w.if-not-is_joined.true))
    ]))

pub loop-preserved : goal.loop-preserved
loop-preserved c =
    let t = c.tick-ticked in
    let l = c.loop in
    let n : carries 24 (get_or l.counts l.k.number 0) ≡ true = holds (ap (λ (t : Ticked). t.carry) t.ensures) c.if-not-ticked.false in
    let j : is_joined c.args.self (after l.k.number) ≡ true = holds c.is_joined.ensures (ap not c.if-not-is_joined.false) in
    (rw length-set l.invariant.0, rw t.ensures (sym (clocked_on 24 (λ k. is_joined c.args.self (after k)) after 16 l.counter l.k.number l.counts (search rules) (rw (n, j))) ∙ l.invariant.1))

pub returns : goal.returns
returns c = let l = c.loop in sym (clocked_over 24 _ _ 16 l.counter l.k.number l.counts (search rules)) ∙ l.invariant.1
