-- The words lent are as many as there are. Assumes nothing.
use Rattle.std.proofs.Common.{sym, arith, length-take-le}
use Rattle.blocks.specs.Words.{words_in}
use Rattle.blocks.proofs.event_in.Goals as goal

pub slice_bounds-read_event-end : goal.slice_bounds-read_event-end
slice_bounds-read_event-end c = sym (length-take-le c.whole_words-many.result c.words_of-words.result (omega arith))

pub returns : goal.returns
unfolding words_in
returns c = let w = c in
    rw (c.read_event.ensures, w.words_of-words.ensures, w.whole_words-many.ensures.0)
