-- T1 of the V260 where the interrupter is lent: each call of `in_place` meets clauses which promise, in every model,
-- that its number is the one of document 01's list and that a refused call leaves the module and the lent interrupter
-- as they were, with the value 0. The laws are scaler's, of every module of sixteen scales; that the V260 is one is
-- `v260_is_a_module`. Assumes nothing.
use Rattle.std.below.core.specs.contracts.clone.Clone+copy.TheImpl as copied
use Rattle.scaler.proofs.Untouched.{LentAccess, LentPulses, LentTest, LentClearLine, LentVetoLine, LentManClr, LentStep, lent_access, lent_pulses, lent_test, lent_clear_line, lent_veto_line, lent_man_clr, lent_step}
use Rattle.v260.specs.contracts.V260.{the_row}
use Rattle.v260.specs.contracts.V260Scaler.TheImpl.{ghosts, dict}
use Rattle.v260.proofs.Stepping.{inside}
use Rattle.v260.proofs.Numbering.{answering}
use Rattle.v260.proofs.V260Scaler.TheImpl.Statement.{statement}
use Rattle.v260.proofs.V260Scaler.TheImpl.Met.{bound}

-- the code of the V260 meets what is asked of a module of sixteen scales
pub v260_is_a_module : statement
v260_is_a_module = bound

-- An access in place: the number is the list's, and a refusal changes nothing
pub v260_lent_access : {M : Type 1} → LentAccess the_row ghosts dict (copied.ghosts the_row) (copied.dict the_row) M
v260_lent_access = lent_access the_row ghosts dict (copied.ghosts the_row) (copied.dict the_row) inside answering

-- Pulses in place: the number is the list's, and a refusal changes nothing
pub v260_lent_pulses : {M : Type 1} → LentPulses the_row ghosts dict (copied.ghosts the_row) (copied.dict the_row) M
v260_lent_pulses = lent_pulses the_row ghosts dict (copied.ghosts the_row) (copied.dict the_row) inside answering

-- TEST in place: the number is the list's, and a refusal changes nothing
pub v260_lent_test : {M : Type 1} → LentTest the_row ghosts dict (copied.ghosts the_row) (copied.dict the_row) M
v260_lent_test = lent_test the_row ghosts dict (copied.ghosts the_row) (copied.dict the_row) inside answering

-- The CLEAR line in place: the number is the list's, and a refusal changes nothing
pub v260_lent_clear_line : {M : Type 1} → LentClearLine the_row ghosts dict (copied.ghosts the_row) (copied.dict the_row) M
v260_lent_clear_line = lent_clear_line the_row ghosts dict (copied.ghosts the_row) (copied.dict the_row) inside answering

-- The front veto line in place: the number is the list's, and a refusal changes nothing
pub v260_lent_veto_line : {M : Type 1} → LentVetoLine the_row ghosts dict (copied.ghosts the_row) (copied.dict the_row) M
v260_lent_veto_line = lent_veto_line the_row ghosts dict (copied.ghosts the_row) (copied.dict the_row) inside answering

-- MAN CLR in place: the number is the list's, and a refusal changes nothing
pub v260_lent_man_clr : {M : Type 1} → LentManClr the_row ghosts dict (copied.ghosts the_row) (copied.dict the_row) M
v260_lent_man_clr = lent_man_clr the_row ghosts dict (copied.ghosts the_row) (copied.dict the_row) inside answering

-- Any call in place: the number is the list's, and a refusal changes nothing
pub v260_lent_step : {M : Type 1} → LentStep the_row ghosts dict (copied.ghosts the_row) (copied.dict the_row) M
v260_lent_step = lent_step the_row ghosts dict (copied.ghosts the_row) (copied.dict the_row) inside answering
