-- Document 01, "How much each promise says": "For each public function the answer, the new state and every lent word
-- follow from the input alone, refusals too; show that any two permitted results are equal". Assumes nothing.
use Rattle.std.specs.Prelude.{◌≡◌}

-- of a contract, as the check reads it off a function's clauses, of lifetimes, what is given, the result, and what is
-- lent as it is at exit: whatever is given, any two permitted results are equal
abbrev pub OneResult : {L : Type 0} {G R E : L → Type 0} → ((κ : L) → G κ → R κ → E κ → Type 0) → Type 0
OneResult {L} {G} {R} {E} permitted =
    (κ : L) (given : G κ) (first second : R κ) (e d : E κ) → permitted κ given first e → permitted κ given second d → first ≡ second

-- and any two permitted contents of what is lent
abbrev pub OneContent : {L : Type 0} {G R E : L → Type 0} {A : L → Type 0} → ((κ : L) → G κ → R κ → E κ → Type 0) → ((κ : L) → E κ → A κ) → Type 0
OneContent {L} {G} {R} {E} permitted lent =
    (κ : L) (given : G κ) (first second : R κ) (e d : E κ) → permitted κ given first e → permitted κ given second d → lent κ e ≡ lent κ d

-- both at once
abbrev pub OneOutcome : {L : Type 0} {G R E : L → Type 0} {A : L → Type 0} → ((κ : L) → G κ → R κ → E κ → Type 0) → ((κ : L) → E κ → A κ) → Type 0
OneOutcome {L} {G} {R} {E} permitted lent =
    (κ : L) (given : G κ) (first second : R κ) (e d : E κ) → permitted κ given first e → permitted κ given second d
    → (first ≡ second) × (lent κ e ≡ lent κ d)
