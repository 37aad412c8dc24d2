-- The rows that are left are looked up as all of them.
use Rattle.std.proofs.Common.{◌≡◌, drop}
use Rattle.bus.specs.Table.{look_up}
use Rattle.bus.proofs.table.look_up.Given as goal

abbrev pub invariant-loop-row : goal.invariant-loop-row
invariant-loop-row g l = look_up (drop l.row-index l.rows) l.a ≡ look_up l.rows l.a
