-- The low part counts; its carry clocks the high part, and nothing lies behind that. Assumes nothing.
use mathlib.Core.Path.{sym, ap, ◌∙◌}
use Rattle.count.specs.declared.Ticked.{Ticked}
use Rattle.scaler.specs.Clock.{clocked}
use Rattle.bus.proofs.Choices.{cond_same}
use Rattle.v560.proofs.counting.counts_after.Goals.{else-low-via-then-low+else-is_low, else-low-via-else-low}
use Rattle.v560.proofs.counting.counts_after.Goals as goal

pub returns-then-is_low : goal.returns-then-is_low
unfolding clocked
returns-then-is_low c =
    let t = c.tick-low in
    rw (sym (ap (λ (t : Ticked). t.carry) t.ensures) ∙ c.if-low.true, sym c.is_low.ensures ∙ c.if-is_low.true, cond_same, c.tick-high.ensures, t.ensures)

pub returns-else-low : goal.returns-else-low
unfolding clocked
returns-else-low c =
    let t = c.tick-low in
    let carry = sym (ap (λ (t : Ticked). t.carry) t.ensures) in
    elim c.else-low.branch [
      | else-low-via-then-low+else-is_low w ↦ rw (carry ∙ w.if-low.true, sym w.is_low.ensures ∙ w.if-is_low.false, t.ensures)
      | else-low-via-else-low w ↦ rw (carry ∙ w.if-low.false, t.ensures)
    ]
