-- T1 for the V560: what Refusals asks of its own calls; the two theorems follow. Assumes nothing.
use mathlib.Core.Path.{◌≡◌}
use Rattle.bus.specs.declared.interrupter.Interrupter.{Interrupter}
use Rattle.bus.specs.Answers.{number_of}
use Rattle.scaler.specs.declared.Call.{Call}
use Rattle.scaler.specs.Refusals.{Same, number_for}
use Rattle.scaler.proofs.Refusals.{Answering, refused_same, number_is}
use Rattle.v560.specs.declared.V560.{V560}
use Rattle.scaler.specs.Calls.{step_of}
use Rattle.v560.specs.Module.{v560}
use Rattle.v560.proofs.Stepping.{inside, row_does}

pub answering : Answering inside
answering = record { row_does = row_does }

-- T1: a refused call of the V560 leaves it and its interrupter as they were, with the value 0
pub v560_refused_same : (s : V560) (i : Interrupter) (c : Call) → Same s i (step_of v560 s i c)
v560_refused_same = refused_same inside answering

-- T1: each number exactly when its line of document 01 holds and no earlier one of the order does
pub v560_number_is : (s : V560) (i : Interrupter) (c : Call) → number_of (step_of v560 s i c).answer ≡ number_for v560 s i c
v560_number_is = number_is inside answering
