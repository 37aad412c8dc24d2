-- T1 where the interrupter is lent, for every module of sixteen scales: each call of `in_place` meets clauses
-- (`statement`) which promise, in every model, that its number is the one of document 01's list and that a refused
-- call leaves the module and the lent interrupter as they were, with the value 0. One law, `lent_answered`, seven
-- times. Assumes nothing.
use mathlib.Core.Path.{◌≡◌, sym, ap, ◌∙◌}
use seplogic.Ra.Ura.{Ura}
use base.Logic.{ent}
use contract.Monad.{fact, fact_mono}
use denote.RattleType.{RattleType}
use mir.Syntax.{Dict}
use Rattle.std.specs.declared.clone.Clone as clone
use Rattle.bus.specs.declared.interrupter.Interrupter.{Interrupter}
use Rattle.bus.specs.Answers.{number_of, value_of, is_done}
use Rattle.scaler.specs.declared.Call.{Call}
use Rattle.scaler.specs.declared.Call.TheVariants as call
use Rattle.scaler.specs.declared.module.Lent.{Lent}
use Rattle.scaler.specs.declared.module.Scaler as scaler
use Rattle.scaler.specs.Outcomes.{lent_of}
use Rattle.scaler.specs.Module.{Module}
use Rattle.scaler.specs.Calls.{step_of}
use Rattle.scaler.specs.Refusals.{LentAnswered}
use Rattle.scaler.specs.Promised.{Promised}
use Rattle.scaler.proofs.Fair.{Inside}
use Rattle.scaler.proofs.Refusals.{Answering, refused_same, number_is}
use Rattle.scaler.specs.contracts.in_place.access as access
use Rattle.scaler.proofs.in_place.access.Statement as access-says
use Rattle.scaler.proofs.in_place.access.Met as access-met
use Rattle.scaler.specs.contracts.in_place.pulses as pulses
use Rattle.scaler.proofs.in_place.pulses.Statement as pulses-says
use Rattle.scaler.proofs.in_place.pulses.Met as pulses-met
use Rattle.scaler.specs.contracts.in_place.test as test
use Rattle.scaler.proofs.in_place.test.Statement as test-says
use Rattle.scaler.proofs.in_place.test.Met as test-met
use Rattle.scaler.specs.contracts.in_place.clear_line as clear-line
use Rattle.scaler.proofs.in_place.clear_line.Statement as clear-line-says
use Rattle.scaler.proofs.in_place.clear_line.Met as clear-line-met
use Rattle.scaler.specs.contracts.in_place.veto_line as veto-line
use Rattle.scaler.proofs.in_place.veto_line.Statement as veto-line-says
use Rattle.scaler.proofs.in_place.veto_line.Met as veto-line-met
use Rattle.scaler.specs.contracts.in_place.man_clr as man-clr
use Rattle.scaler.proofs.in_place.man_clr.Statement as man-clr-says
use Rattle.scaler.proofs.in_place.man_clr.Met as man-clr-met
use Rattle.scaler.specs.contracts.in_place.step as step
use Rattle.scaler.proofs.in_place.step.Statement as step-says
use Rattle.scaler.proofs.in_place.step.Met as step-met

module _ {S J : Type 0} {m : Module S} (inside : Inside m J) (own : Answering inside) where
  lent_answered : {M : Type 1} (𝓤 : Ura M) (s : S) (i : Interrupter) (c : Call) (l : Lent S) (j : Interrupter)
      → ent 𝓤 (fact 𝓤 ((l ≡ lent_of (step_of m s i c)) × (j ≡ (step_of m s i c).interrupter))) (fact 𝓤 (LentAnswered m s i c l j))
  lent_answered 𝓤 s i c l j =
      fact_mono 𝓤 _ _ (λ p.
      let is = ap (λ (l : Lent S). l.answer) p.0 in (
        ap number_of is ∙ number_is inside own s i c,
        λ refusal.
            let r = refused_same inside own s i c (sym (ap is_done is) ∙ refusal) in
            (ap (λ (l : Lent S). l.state) p.0 ∙ r.0, p.1 ∙ r.1, ap value_of is ∙ r.2),
      ))

-- a module of the states T, what it has of its own and its code, g and d, and how a state is copied
module _ (T : RattleType) (g : scaler.Ghosts T.Denot) (d : Dict) (c : clone.Ghosts T.Denot) (e : Dict) where
  -- An access in place: the number is the list's, and a refusal changes nothing
  abbrev pub LentAccess : Type 1 → Type 2
  LentAccess M =
      access-says.statement M
      × Promised M (access.ended T g d c e) (λ 𝓤. access.clauses T g d c e {𝓤 = 𝓤}) (λ κs a l x. LentAnswered g.own a.0 a.1.0.now (call.Access a.1.1.0) l x.1.0.now)

  -- Pulses in place: the number is the list's, and a refusal changes nothing
  abbrev pub LentPulses : Type 1 → Type 2
  LentPulses M =
      pulses-says.statement M
      × Promised M (pulses.ended T g d c e) (λ 𝓤. pulses.clauses T g d c e {𝓤 = 𝓤}) (λ κs a l x. LentAnswered g.own a.0 a.1.0.now (call.Pulses a.1.1.0 a.1.1.1.0) l x.1.0.now)

  -- TEST in place: the number is the list's, and a refusal changes nothing
  abbrev pub LentTest : Type 1 → Type 2
  LentTest M =
      test-says.statement M
      × Promised M (test.ended T g d c e) (λ 𝓤. test.clauses T g d c e {𝓤 = 𝓤}) (λ κs a l x. LentAnswered g.own a.0 a.1.0.now call.Test l x.1.0.now)

  -- The CLEAR line in place: the number is the list's, and a refusal changes nothing
  abbrev pub LentClearLine : Type 1 → Type 2
  LentClearLine M =
      clear-line-says.statement M
      × Promised M (clear-line.ended T g d c e) (λ 𝓤. clear-line.clauses T g d c e {𝓤 = 𝓤}) (λ κs a l x. LentAnswered g.own a.0 a.1.0.now call.ClearLine l x.1.0.now)

  -- The front veto line in place: the number is the list's, and a refusal changes nothing
  abbrev pub LentVetoLine : Type 1 → Type 2
  LentVetoLine M =
      veto-line-says.statement M
      × Promised M (veto-line.ended T g d c e) (λ 𝓤. veto-line.clauses T g d c e {𝓤 = 𝓤}) (λ κs a l x. LentAnswered g.own a.0 a.1.0.now (call.VetoLine a.1.1.0) l x.1.0.now)

  -- MAN CLR in place: the number is the list's, and a refusal changes nothing
  abbrev pub LentManClr : Type 1 → Type 2
  LentManClr M =
      man-clr-says.statement M
      × Promised M (man-clr.ended T g d c e) (λ 𝓤. man-clr.clauses T g d c e {𝓤 = 𝓤}) (λ κs a l x. LentAnswered g.own a.0 a.1.0.now call.ManClr l x.1.0.now)

  -- Any call in place: the number is the list's, and a refusal changes nothing
  abbrev pub LentStep : Type 1 → Type 2
  LentStep M =
      step-says.statement M
      × Promised M (step.ended T g d c e) (λ 𝓤. step.clauses T g d c e {𝓤 = 𝓤}) (λ κs a l x. LentAnswered g.own a.0 a.1.0.now a.1.1.0 l x.1.0.now)

  module _ {J : Type 0} (inside : Inside g.own J) (own : Answering inside) where
    pub lent_access : {M : Type 1} → LentAccess M
    lent_access = (access-met.met, λ 𝓤 𝓛 mem run κs a x l y. lent_answered inside own 𝓤 a.0 a.1.0.now (call.Access a.1.1.0) l y.1.0.now)

    pub lent_pulses : {M : Type 1} → LentPulses M
    lent_pulses = (pulses-met.met, λ 𝓤 𝓛 mem run κs a x l y. lent_answered inside own 𝓤 a.0 a.1.0.now (call.Pulses a.1.1.0 a.1.1.1.0) l y.1.0.now)

    pub lent_test : {M : Type 1} → LentTest M
    lent_test = (test-met.met, λ 𝓤 𝓛 mem run κs a x l y. lent_answered inside own 𝓤 a.0 a.1.0.now call.Test l y.1.0.now)

    pub lent_clear_line : {M : Type 1} → LentClearLine M
    lent_clear_line = (clear-line-met.met, λ 𝓤 𝓛 mem run κs a x l y. lent_answered inside own 𝓤 a.0 a.1.0.now call.ClearLine l y.1.0.now)

    pub lent_veto_line : {M : Type 1} → LentVetoLine M
    lent_veto_line = (veto-line-met.met, λ 𝓤 𝓛 mem run κs a x l y. lent_answered inside own 𝓤 a.0 a.1.0.now (call.VetoLine a.1.1.0) l y.1.0.now)

    pub lent_man_clr : {M : Type 1} → LentManClr M
    lent_man_clr = (man-clr-met.met, λ 𝓤 𝓛 mem run κs a x l y. lent_answered inside own 𝓤 a.0 a.1.0.now call.ManClr l y.1.0.now)

    pub lent_step : {M : Type 1} → LentStep M
    lent_step = (step-met.met, λ 𝓤 𝓛 mem run κs a x l y. lent_answered inside own 𝓤 a.0 a.1.0.now a.1.1.0 l y.1.0.now)
