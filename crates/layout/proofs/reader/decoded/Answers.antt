-- The counts are the callee's; the fields are those of the first word, or 0. Assumes nothing.
use mathlib.Core.Path.{◌≡◌}
use mathlib.Core.Bool.{cond}
use lib.ListN.{get_or}
use Rattle.layout.specs.Reader.{event_in}
use Rattle.layout.proofs.Lengths.{behind_place}
use Rattle.layout.proofs.reader.decoded.Goals as goal
use Rattle.layout.proofs.reader.decoded.Goals.{then-settings, else-settings}

pub returns : goal.returns
unfolding event_in
returns c =
    let header : c.if-settings.header ≡ cond c.args.settings.header (get_or c.args.words.now 0 0) 0 =
    elim c.if-settings.branch [ then-settings w ↦ rw (w.header-is, w.if-settings.true) | else-settings w ↦ rw (w.header-is, w.if-settings.false) ] in
    rw (header, c.decoded_counts-counts.ensures, behind_place c.args.words.now _ _ c.data_place.ensures)
