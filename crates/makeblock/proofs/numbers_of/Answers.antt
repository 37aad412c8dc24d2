-- The words fill the whole line. Assumes nothing.
use mathlib.Core.Path.{◌≡◌, sym, ◌∙◌}
use mathlib.Core.List.{[]}
use lib.ListN.{length, replicate}
use Rattle.text.proofs.Putting.{put_end}
use borrow.Author.Rules.{rules}
use Rattle.makeblock.proofs.numbers_of.Goals as goal

pub returns : goal.returns
returns c = let a = c.args in
    let n : length a.words ≡ 64 = search rules in
    c.put_words.ensures.1 ∙ put_end [] (replicate 64 0) a.words (sym n)
