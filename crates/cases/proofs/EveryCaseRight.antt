-- T6: every marked case of document 01 is right, by computation of the definitions that the contracts of the modules
-- and of the log reader are equations with. Assumes nothing.
use Rattle.std.proofs.Common.{◌≡◌, [], refl}
use lib.Count.{ones_in}
use Rattle.benchlog.specs.Number.{number_at, groups, group}
use Rattle.bus.specs.Table.{look_up}
use Rattle.count.specs.Counter.{iterate}
use Rattle.layout.specs.Length.{enabled_from}
use Rattle.meb.specs.Ring.{put_round}
use Rattle.scaler.specs.Clock.{clocked, any_from}
use Rattle.v830.specs.State.{formed}
use Rattle.v830.specs.Trigger.{event_counts}
use Rattle.cases.specs.Running.{wrong_from, wrong_cases}
use Rattle.cases.specs.Marked.{marked}

pub every_case_right : wrong_cases 1 marked ≡ []
unfolding marked wrong_from look_up iterate enabled_from clocked any_from formed put_round event_counts ones_in number_at groups group
every_case_right = refl
