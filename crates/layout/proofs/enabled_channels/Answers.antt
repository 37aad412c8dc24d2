-- All the ones of a number of 32 bits stand in 32 bits. Assumes nothing.
use Rattle.layout.proofs.Enabled.{ones_all, ones_in_le}
use borrow.Author.Rules.{rules}
use Rattle.layout.proofs.enabled_channels.Goals as goal

pub returns : goal.returns
returns c = let e = ones_all 32 c.args.enable (search rules) in
    (e, rw e (ones_in_le 32 c.args.enable))
