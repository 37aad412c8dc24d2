-- The counts fill the rest behind the first six numbers. Assumes nothing.
use Rattle.std.proofs.Common.{◌≡◌, length, replicate, sym, ◌∙◌, rules}
use Rattle.text.specs.Text.{put}
use Rattle.text.proofs.Putting.{put_end}
use Rattle.blocks.specs.Words.{first_of}
use Rattle.blocks.proofs.numbers_of.Goals as goal

pub returns : goal.returns
unfolding put
returns c = let a = c.args in
    let n : length a.event.counts ≡ 32 = search rules in
    c.put_words-2.ensures.1 ∙ rw c.put_words.ensures.1 (put_end (first_of a.place a.reply a.event) (replicate 32 a.place) a.event.counts (sym n))
