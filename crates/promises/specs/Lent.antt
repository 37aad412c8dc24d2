-- Document 01, "How much each promise says", of the contract of a function that is lent a record: in every model, of
-- any two results and any two contents of what was lent, each permitted by the function's own clauses, it follows that
-- they are equal. Assumes nothing.
use Rattle.std.specs.Prelude.{◌≡◌}
use seplogic.Ra.Ura.{Ura}
use base.Logic.{SProp, ent}
use prog.Memory.{Memory}
use prog.Routine.{Routine}
use types.Logic.{Logic}
use contract.Monad.{Fun, conj, fact}
use contract.Lifetimes.{Lfts}
use denote.Triple.Entry.{Args, Res}
use denote.Triple.Clauses.{Ended, Clauses, AtExit}

-- a function's clauses, in a model
abbrev pub Said : Type 1 → Ended → Type 2
Said M T = (𝓤 : Ura M) (𝓛 : Logic 𝓤) → (Memory → SProp 𝓤) → (Routine → Fun 𝓤) → Clauses 𝓤 T

module _ {M : Type 1} (T : Ended) (c : Said M T) {L : Lfts T.signature.lifetimes → Type 0} (lent : (κs : Lfts T.signature.lifetimes) → AtExit T κs → L κs) where
  abbrev pub OneLent : Type 2
  OneLent =
      (𝓤 : Ura M) (𝓛 : Logic 𝓤) (mem : Memory → SProp 𝓤) (run : Routine → Fun 𝓤) (κs : Lfts T.signature.lifetimes) (a : Args T.signature κs) (g : (c 𝓤 𝓛 mem run κs a).ghost)
      (first second : Res T.signature κs) (e d : AtExit T κs)
      → ent 𝓤 (conj 𝓤 ((c 𝓤 𝓛 mem run κs a).ensures g first e) ((c 𝓤 𝓛 mem run κs a).ensures g second d)) (fact 𝓤 ((first ≡ second) × (lent κs e ≡ lent κs d)))
