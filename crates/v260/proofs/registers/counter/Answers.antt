-- A count that is read is one of those that fit. Assumes nothing.
use borrow.Author.Rules.{rules}
use Rattle.v260.proofs.Fitting.{fits_at}
use Rattle.v260.proofs.registers.counter.Goals as goal

pub counter_word-word-requires : goal.counter_word-word-requires
counter_word-word-requires c = fits_at c.args.s.scales.counts c.args.channel.number c.requires (search rules)
