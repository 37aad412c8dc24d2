-- The lines put so far and those that are left give the whole run (Going); a turn is one clause of `run_of`. Assumes
-- nothing.
use Rattle.std.proofs.Common.{◌≡◌, ◌-◌, ◌/◌, length}
use Rattle.meb.specs.Ring.{lent}
use Rattle.night.specs.Runs.{run_of}
use Rattle.night.proofs.Going.{Going}
use Rattle.night.proofs.Sound.{Sound}
use Rattle.night.proofs.run.Given as goal

abbrev pub invariant-loop : goal.invariant-loop
invariant-loop l = (length l.memory ≡ length l.initial.memory) × Sound l.now (lent l.memory)
    × Going (run_of (length l.initial.out / 63) l.last l.log l.initial.now (lent l.initial.memory)) l.initial.out l.log l.last (length l.initial.out / 63 - l.counter) l.used l.at l.now (lent l.memory) l.out
    × (l.number.number ≡ l.now.entries)
