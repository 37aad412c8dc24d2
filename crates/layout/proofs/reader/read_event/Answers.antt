-- What is not refused reaches to the event's end, so that it can be decoded. Assumes nothing.
use mathlib.Core.Path.{sym, ap, ◌∙◌}
use Rattle.layout.specs.Numbers.{no_refusal}
use Rattle.layout.proofs.Answers.{done_fits}
use Rattle.layout.proofs.reader.read_event.Goals as goal

pub decoded-event-requires : goal.decoded-event-requires
decoded-event-requires c = done_fits c.args.settings c.args.words.now (ap no_refusal (sym c.answered.ensures ∙ c.in_ok-length.was))
