-- Any two permitted results of a function are equal: a promise is an equation with a definition, so both equal what
-- the definition gives. Over every type, so that it is said of results, states and lent words alike. Assumes nothing.
use mathlib.Core.Path.{◌≡◌, sym, ◌∙◌}

pub determined : {A : Type 0} {first second given : A} → first ≡ given → second ≡ given → first ≡ second
determined p q = p ∙ sym q
