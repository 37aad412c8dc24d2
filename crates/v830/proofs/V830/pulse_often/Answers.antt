-- VETO, or the ticks of one counter. Assumes nothing.
use Rattle.std.proofs.Common.{rules}
use Rattle.v830.proofs.Pulsed.{pulses_vetoed, pulses_ticked}
use Rattle.v830.proofs.V830.pulse_often.Goals as goal

pub returns-then-self : goal.returns-then-self
returns-then-self c = search (rules, pulses_vetoed)

pub returns : goal.returns
returns c = search (rules, pulses_ticked)
