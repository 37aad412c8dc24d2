-- Two equations with what a definition gives leave no two results: of a function that is lent a record, as `OneLent`
-- says it. Assumes nothing.
use mathlib.Core.Path.{◌≡◌}
use seplogic.Ra.Ura.{Ura}
use base.Logic.{ent}
use contract.Monad.{conj, conj_l, conj_r, fact, fact_i, fact_use}
use Rattle.count.proofs.Determined.{determined}

-- two equations with what a definition gives, of a result and of what was lent, twice
pub both_determined : {M : Type 1} (𝓤 : Ura M) {R L : Type 0} (first second given : R) (e d left : L)
    → ent 𝓤 (conj 𝓤 (fact 𝓤 ((first ≡ given) × (e ≡ left))) (fact 𝓤 ((second ≡ given) × (d ≡ left)))) (fact 𝓤 ((first ≡ second) × (e ≡ d)))
both_determined 𝓤 first second given e d left =
    fact_use 𝓤 ((first ≡ given) × (e ≡ left)) (conj_l 𝓤 _ _) (λ p.
    fact_use 𝓤 ((second ≡ given) × (d ≡ left)) (conj_r 𝓤 _ _) (λ q. fact_i 𝓤 _ _ (determined p.0 q.0, determined p.1 q.1)))
