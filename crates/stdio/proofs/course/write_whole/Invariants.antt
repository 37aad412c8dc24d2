-- Each write takes some of the bytes that are left. Assumes nothing.
use Rattle.std.proofs.Common.{length}
use Rattle.stdio.proofs.course.write_whole.Given as goal

abbrev pub decreases-loop-rest : goal.decreases-loop-rest
decreases-loop-rest l = length l.rest
