-- The V560 as a module of sixteen scales. Assumes nothing.
use Rattle.count.specs.declared.Width.TheVariants.{Bits32}
use Rattle.bus.specs.Interrupting.{well_formed}
use Rattle.scaler.specs.Module.{Module}
use Rattle.v560.specs.declared.V560.{V560}
use Rattle.v560.specs.Outcomes.{scaled}
use Rattle.v560.specs.Counting.{unjoined, is_high, pulsed, watched}
use Rattle.v560.specs.Registers.{registers, register}

abbrev pub v560 : Module V560
v560 =
    record {
      scales = λ s. s.scales;
      scaled = scaled;
      registers = registers;
      register = register;
      -- of 12 only "level above 7" can be had: a count of 32 bits is never above its width
      formed = λ s i. well_formed i;
      unjoined = unjoined;
      width = Bits32;
      ignores = λ s k. is_high s.joined k;
      pulsed = λ s k. pulsed s.joined s.scales.counts k;
      watched = watched;
    }
