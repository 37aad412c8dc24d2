-- What is said of the V260's states, and a start (document 01, "Numbers that come back"). Assumes nothing.
use Rattle.std.specs.Prelude.{ℕ, ◌^◌, Bool, true, false, ◌&&◌, List, ltb, leb}
use Rattle.std.specs.List.{list_all}
use Rattle.bus.specs.declared.Refusal.TheVariants.{Malformed}
use Rattle.bus.specs.declared.interrupter.Interrupter.{Interrupter}
use Rattle.bus.specs.Interrupting.{power_on, well_formed}
use Rattle.scaler.specs.declared.Scales.{Scales}
use Rattle.scaler.specs.declared.module.Outcome.{Outcome}
use Rattle.scaler.specs.Orders.{fresh}
use Rattle.scaler.specs.Outcomes.{refused, done}
use Rattle.v260.specs.declared.Switches.{Switches}
use Rattle.v260.specs.declared.V260.{V260}

-- every count is within its 24 bits
abbrev pub fits : List ℕ → Bool
fits counts = list_all (λ count. ltb count (2 ^ 24)) counts

-- 12: "a count above its width", "level above 7"
abbrev pub is_formed : V260 → Interrupter → Bool
is_formed s i = well_formed i && fits s.scales.counts

-- the module with other scales: "Switches are fixed when the module is made"
abbrev pub scaled : Scales → V260 → V260
scaled c s = record { scales = c; switches = s.switches }

-- "A refused start returns the power-on record .. (V260: switches as given, its interrupter with level 8), which gets
-- 12 from then on"
abbrev pub start_for : Bool → V260 → ℕ → Outcome V260
start_for true s level = done 0 s (power_on level)
start_for false s level = refused Malformed s (power_on 8)

abbrev pub start_of : Switches → ℕ → Outcome V260
start_of switches level = start_for (leb level 7) (record { scales = fresh; switches = switches }) level
