-- The gate's answer picks: the run, or why it is refused, and nothing is put. Assumes nothing.
use Rattle.std.proofs.Common.{sym, refl, ap, ◌∙◌, arith}
use Rattle.meb.specs.Ring.{lent}
use Rattle.bus.specs.Answers.{is_done}
use Rattle.night.specs.declared.Next.TheVariants.{Refused}
use Rattle.night.proofs.Going.{nothing_put}
use Rattle.night.proofs.Sound.{gate_sound}
use Rattle.night.proofs.replay.Goals as goal

pub run-requires : goal.run-requires
run-requires c = gate_sound c.args.night (lent c.args.memory.now) (ap is_done (sym c.gate.ensures ∙ c.in-Ok.is))

pub returns-in-Ok : goal.returns-in-Ok
returns-in-Ok c = rw (sym c.gate.ensures ∙ c.in-Ok.is) c.run.ensures

pub returns-in-Err : goal.returns-in-Err
returns-in-Err c =
    let p = nothing_put 0 0 c.args.night (Refused c.in-Err.why) (lent c.args.memory.now) c.args.out.now (omega arith) in
    rw (sym c.gate.ensures ∙ c.in-Err.is) (c.here.ensures ∙ p.0, refl, p.1)
