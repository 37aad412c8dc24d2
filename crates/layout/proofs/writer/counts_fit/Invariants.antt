-- What is left of the counts decides; one turn is one clause of the definition. Assumes nothing.
use mathlib.Core.Path.{◌≡◌}
use lib.ListN.{drop}
use Rattle.layout.specs.Writer.{counts_fit}
use Rattle.layout.proofs.writer.counts_fit.Given as goal

abbrev pub invariant-loop-count : goal.invariant-loop-count
invariant-loop-count l = counts_fit l.settings.short l.mask (drop l.count-index l.count-items) ≡ counts_fit l.settings.short l.initial.mask l.fn.event.counts
