-- The law of the next enabled channel, by the zeros below the lowest one of the mask. Assumes nothing.
use borrow.Author.Rules.{rules}
use native.Mathlib.Omega.{arith}
use Rattle.layout.proofs.Enabled.{enabled_none, next_of}
use Rattle.layout.proofs.channels.ChannelsIterator.next.Goals as goal

pub returns-then-self-eq0-clause-steps : goal.returns-then-self-eq0-clause-steps
returns-then-self-eq0-clause-steps c = let e = enabled_none 32 0 in rw c.if-self-eq0.true (e, e)

pub overflow_sub-self : goal.overflow_sub-self
overflow_sub-self c = (next_of c.args.self.now.0 (search rules) (search rules)).1

pub returns-clause-steps : goal.returns-clause-steps
returns-clause-steps c = (next_of c.args.self.now.0 (search rules) (search rules)).3

pub returns-clause-goes : goal.returns-clause-goes
returns-clause-goes c = record { on = λ f. (tt, tt, rw (next_of c.args.self.now.0 (search rules) (search rules)).3 (omega arith)); keeps = tt; rests = λ f. tt }
