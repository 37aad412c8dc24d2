-- The V560 with other scales, and switched on (document 01). Assumes nothing.
use Rattle.std.specs.Prelude.{ℕ, true}
use Rattle.bus.specs.Interrupting.{power_on}
use Rattle.scaler.specs.declared.Scales.{Scales}
use Rattle.scaler.specs.declared.module.Outcome.{Outcome}
use Rattle.scaler.specs.Orders.{fresh}
use Rattle.scaler.specs.Outcomes.{done}
use Rattle.v560.specs.declared.V560.{V560}

-- the module with other scales
abbrev pub scaled : Scales → V560 → V560
scaled c s = record { scales = c; joined = s.joined; sections = s.sections; latch = s.latch }

-- "A V560's start refuses nothing"; level, vector and request bits 0, the veto latch 1
abbrev pub started : ℕ → Outcome V560
started joined = done 0 (record { scales = fresh; joined = joined; sections = 0; latch = true }) (power_on 0)
