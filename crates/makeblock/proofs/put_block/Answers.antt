-- The words lent are as many as the head asks for. Assumes nothing.
use mathlib.Core.Path.{sym}
use native.Mathlib.Omega.{arith}
use lib.Seq.{length-take-le}
use Rattle.makeblock.proofs.put_block.Goals as goal

pub slice_bounds-write_event-end : goal.slice_bounds-write_event-end
slice_bounds-write_event-end c = sym (length-take-le c.room_of-room.result c.first_words-words.result (omega arith))
