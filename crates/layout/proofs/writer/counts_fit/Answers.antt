use mathlib.Core.Path.{sym, ◌∙◌}
use Rattle.layout.proofs.Data.{fit_fails, fit_goes_on, fit_ends}
use borrow.Author.Rules.{rules}
use Rattle.layout.proofs.writer.counts_fit.Goals as goal

pub returns-then-not-count_fits : goal.returns-then-not-count_fits
returns-then-not-count_fits c = let l = c.loop-count in
    sym (sym l.invariant ∙ fit_fails c.args.settings.short l.mask _ l.count-index (search rules) (sym c.if-not-count_fits.ensures))

pub loop-count-preserved : goal.loop-count-preserved
loop-count-preserved c = let l = c.loop-count in
    sym (fit_goes_on c.args.settings.short l.mask _ l.count-index (search rules) (sym c.if-not-count_fits.ensures)) ∙ l.invariant

pub returns : goal.returns
returns c = let l = c.loop-count in
    sym (fit_ends c.args.settings.short l.mask _ l.count-index (search rules)) ∙ l.invariant
