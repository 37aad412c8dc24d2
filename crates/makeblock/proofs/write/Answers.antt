-- What is had of the input lies within its buffer. Assumes nothing.
use mathlib.Core.Path.{sym}
use lib.Seq.{length-take-le}
use Rattle.makeblock.proofs.write.Goals as goal

pub slice_bounds-read_head-end : goal.slice_bounds-read_head-end
slice_bounds-read_head-end c = let s = c in sym (length-take-le s.args.first.have s.args.buf.now s.requires)
