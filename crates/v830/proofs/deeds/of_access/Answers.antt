-- The two cases of the look-up. Assumes nothing.
use Rattle.std.proofs.Common.{sym, ◌∙◌}
use Rattle.v830.proofs.deeds.of_access.Goals as goal

pub returns-in-Err : goal.returns-in-Err
returns-in-Err c = rw (sym c.look_up.ensures ∙ c.in-Err.is)

pub returns-in-Ok : goal.returns-in-Ok
returns-in-Ok c = rw (sym c.look_up.ensures ∙ c.in-Ok.is) c.of_row.ensures
