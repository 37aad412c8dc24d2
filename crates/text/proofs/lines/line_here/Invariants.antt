-- Putting what is left gives the whole line; a turn puts a number and its mark. Assumes nothing.
use Rattle.std.proofs.Common.{drop}
use Rattle.text.specs.Line.{line}
use Rattle.text.proofs.Pieces.{Leaves}
use Rattle.text.proofs.lines.line_here.Given as goal

abbrev pub invariant-loop-i : goal.invariant-loop-i
invariant-loop-i l = Leaves (line l.numbers) l.initial.out l.at l.out l.p (line (drop l.i l.numbers))
