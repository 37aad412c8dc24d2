-- An event has words where a channel is enabled or there is a header (`has_words`). Assumes nothing.
use Rattle.std.proofs.Common.{rules}
use Rattle.layout.proofs.Lengths.{has_words}
use Rattle.v830.specs.State.{settings}
use Rattle.v830.proofs.V830.is_explained.Goals as goal

pub returns-then-self-ne0 : goal.returns-then-self-ne0
returns-then-self-ne0 c = rw (has_words (settings c.args.self) (search rules)) (search rules)

pub returns-else-self-ne0 : goal.returns-else-self-ne0
returns-else-self-ne0 c = rw (has_words (settings c.args.self) (search rules)) (search rules)
