use mathlib.Core.Path.{sym, ◌∙◌}
use Rattle.meb.proofs.RingLaws.{put_turn, put_done}
use borrow.Author.Rules.{rules}
use Rattle.meb.proofs.put_round.Goals as goal

pub loop-j-preserved : goal.loop-j-preserved
loop-j-preserved c = let l = c.loop-j in
    put_turn _ l.memory c.args.words.now c.args.from l.j _ (search rules) (cc) ∙ l.invariant

pub returns : goal.returns
returns c = sym (put_done _ _ _ _ c.loop-j.j (search rules)) ∙ c.loop-j.invariant
