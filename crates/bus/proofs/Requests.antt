-- What a step does to the request, by whether it requests. Assumes nothing.
use mathlib.Core.Path.{◌≡◌}
use mathlib.Core.Bool.{Bool, true, false}
use Rattle.bus.specs.declared.interrupter.Interrupter.{Interrupter}
use Rattle.bus.specs.Interrupting.{requests, raised}

pub quiet : (rose : Bool) (i : Interrupter) → requests rose i ≡ false → i ≡ raised rose i
quiet rose i e = rw e

pub loud : (rose : Bool) (i : Interrupter) → requests rose i ≡ true
    → record { enabled = i.enabled; requested = true; level = i.level; vector = i.vector } ≡ raised rose i
loud rose i e = rw e
