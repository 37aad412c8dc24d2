-- The words that are lent are so many zeros. Assumes nothing.
use Rattle.std.proofs.Common.{List, ℕ, ap, ◌∙◌, replicate}
use Rattle.std.proofs.lemmas.List.{take-replicate}
use Rattle.meb.specs.Ring.{lent}
use Rattle.cases.specs.Running.{wrong_with, seen}
use Rattle.modules.specs.Heads.{lent_of}
use Rattle.cases.proofs.running.wrong_in.Goals as goal

pub returns : goal.returns
returns c = let words = take-replicate c.lent-end.result 66 0 c.lent-end.ensures.1 ∙ ap (λ (n : ℕ). replicate {A = ℕ} n 0) (c.lent-end.ensures.0 ∙ ap (λ (v : List ℕ). lent_of c.args.c.which v 66) c.filled.ensures) in
    c.first_wrong.ensures ∙ ap (λ (ws : List ℕ). wrong_with (seen c.args.c) (lent ws)) words
