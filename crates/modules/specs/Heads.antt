-- How a module is started from the values of a head; docs/FORMATS.md, `trace`. Assumes nothing.
use Rattle.std.specs.Prelude.{ℕ, ◌/◌, ◌%◌, ◌^◌, cond, Option, Some, None, List, ◌==◌, eqb, get_or, take, drop, min}
use Rattle.meb.specs.Ring.{Memory}
use Rattle.scaler.specs.Orders.{counting}
use Rattle.scaler.specs.Module.{Module}
use Rattle.scaler.specs.declared.module.Outcome.{Outcome}
use Rattle.v260.specs.declared.Switches.{Switches}
use Rattle.v260.specs.Module.{v260}
use Rattle.v260.specs.Outcomes.{start_of}
use Rattle.v560.specs.Module.{v560}
use Rattle.v560.specs.Outcomes.{started}
use Rattle.v830.specs.declared.Outcome as o830
use Rattle.v830.specs.Outcomes as v830
use Rattle.v830.specs.State as s830
use Rattle.modules.specs.declared.Held.{Held}
use Rattle.modules.specs.declared.Which.{Which}
use Rattle.modules.specs.declared.Which.TheVariants as which
use Rattle.modules.specs.Entries.{after260, after560, after830}

-- "The head's first number names the module."
abbrev pub named : ℕ → Option Which
named name = cond (name == 260) (Some which.V260) (cond (name == 560) (Some which.V560) (cond (name == 830) (Some which.V830) None))

-- "bit 0 set, JP18 inserted; bit 1 set, JP17 inserted"
abbrev pub switches_of : List ℕ → Switches
switches_of values =
    record {
      joined = get_or values 1 0 % 2 ^ 16;
      interrupts = get_or values 2 0 % 2 ^ 16;
      jp18 = eqb (get_or values 3 0 % 2) 1;
      jp17 = eqb (get_or values 3 0 / 2 % 2) 1;
    }

-- "The counts `c0` to `c15` (V830: `c31`), any numbers, are then put into the record that the start gave, whatever it
-- answered"
abbrev pub counted : {S : Type 0} → Module S → List ℕ → Outcome S → Outcome S
counted m counts o =
    record { answer = o.answer; state = m.scaled (counting counts (m.scales o.state)) o.state; interrupter = o.interrupter }

abbrev pub counted830 : List ℕ → o830.Outcome → o830.Outcome
counted830 counts o = record { answer = o.answer; state = s830.counting counts o.state }

-- "The module is started with the switches of the head (a V830 with `geo` and the lent words)"
abbrev pub begun260 : List ℕ → Held
begun260 values = after260 (counted v260 (take 16 (drop 5 values)) (start_of (switches_of values) (get_or values 4 0)))

abbrev pub begun560 : List ℕ → Held
begun560 values = after560 (counted v560 (take 16 (drop 2 values)) (started (get_or values 1 0 % 2 ^ 8)))

abbrev pub begun830 : List ℕ → Memory → Held
begun830 values memory = after830 (counted830 (take 32 (drop 3 values)) (v830.started (get_or values 1 0) memory))

-- the module that is named
abbrev pub begun_of : Which → List ℕ → Memory → Held
begun_of which.V260 values memory = begun260 values
begun_of which.V560 values memory = begun560 values
begun_of which.V830 values memory = begun830 values memory

-- "`capacity` (0 to 40,000): how many words of event memory are lent to it", of so many that there are
abbrev pub lent_of : Which → List ℕ → ℕ → ℕ
lent_of which.V260 values most = 0
lent_of which.V560 values most = 0
lent_of which.V830 values most = min (get_or values 2 0) most
