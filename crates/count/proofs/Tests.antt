-- A function that answers whether something holds: what its answer, once tested, says of it. Assumes nothing.
use mathlib.Core.Path.{◌≡◌, sym, ◌∙◌}
use mathlib.Core.Bool.{Bool, true, false, not}
use borrow.Author.Tests.{not-true, not-false}

pub holds : {a b : Bool} → a ≡ b → not a ≡ false → b ≡ true
holds {a = a} e t = sym e ∙ not-false a t

pub fails : {a b : Bool} → a ≡ b → not a ≡ true → b ≡ false
fails {a = a} e t = sym e ∙ not-true a t
