-- T1 for the V260: what Refusals asks of its own calls; the two theorems follow. Assumes nothing.
use mathlib.Core.Path.{◌≡◌}
use Rattle.bus.specs.declared.interrupter.Interrupter.{Interrupter}
use Rattle.bus.specs.Answers.{number_of}
use Rattle.scaler.specs.declared.Call.{Call}
use Rattle.scaler.specs.Refusals.{Same, number_for}
use Rattle.scaler.proofs.Refusals.{Answering, refused_same, number_is}
use Rattle.v260.specs.declared.V260.{V260}
use Rattle.scaler.specs.Calls.{step_of}
use Rattle.v260.specs.Module.{v260}
use Rattle.v260.proofs.Stepping.{inside, row_does}

pub answering : Answering inside
answering = record { row_does = row_does }

-- T1: a refused call of the V260 leaves it and its interrupter as they were, with the value 0
pub v260_refused_same : (s : V260) (i : Interrupter) (c : Call) → Same s i (step_of v260 s i c)
v260_refused_same = refused_same inside answering

-- T1: each number exactly when its line of document 01 holds and no earlier one of the order does
pub v260_number_is : (s : V260) (i : Interrupter) (c : Call) → number_of (step_of v260 s i c).answer ≡ number_for v260 s i c
v260_number_is = number_is inside answering
