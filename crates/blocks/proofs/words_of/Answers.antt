use Rattle.std.proofs.Common.{refl, ◌∙◌, arith, rules}
use Rattle.blocks.specs.Words.{words_from}
use Rattle.blocks.proofs.Captured.{little_end, one_word}
use Rattle.blocks.proofs.words_of.Goals as goal

pub loop-i-init : goal.loop-i-init
unfolding words_from
loop-i-init c = (refl, refl)

pub loop-i-preserved : goal.loop-i-preserved
loop-i-preserved c = let l = c.loop-i in
    (search rules, one_word c.args.bytes.now l.words l.i c.from_le_bytes.result (omega arith) (c.from_le_bytes.ensures ∙ little_end _ _ _ _) l.invariant.1)
