-- A place that is reached lies within its row: it is a channel's. Assumes nothing.
use mathlib.Core.Path.{sym, ◌∙◌}
use Rattle.bus.proofs.Places.{places_narrow}
use Rattle.scaler.proofs.by_value.access.Goals as goal

pub invariant_of-channel : goal.invariant_of-channel
invariant_of-channel g c = record {
  below = rw (← c.table.ensures, sym c.look_up.ensures ∙ c.in-Ok.is) at (places_narrow (λ _. 16) g.M.Scaler.own.registers c.args.a g.met.M.Scaler.sixteen_places);
}
