-- With the digits still to come put before it, what is stored is the whole; a turn stores the last digit of the rest.
-- Assumes nothing.
use Rattle.std.proofs.Common.{◌≡◌, ◌≤◌}
use Rattle.text.specs.Text.{put, decimal}
use Rattle.text.proofs.Decimal.{filled}
use Rattle.text.proofs.write_digits.Given as goal

abbrev pub invariant-loop-i : goal.invariant-loop-i
invariant-loop-i l = (l.at ≤ l.i) × (filled l.out l.at l.i l.rest ≡ put l.initial.out l.at (decimal l.n))
