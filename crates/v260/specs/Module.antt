-- The V260 as a module of sixteen scales. Assumes nothing.
use Rattle.count.specs.declared.Width.TheVariants.{Bits24}
use Rattle.scaler.specs.Module.{Module}
use Rattle.v260.specs.declared.V260.{V260}
use Rattle.v260.specs.Outcomes.{is_formed, scaled}
use Rattle.v260.specs.Counting.{unjoined, is_joined, pulsed, watched}
use Rattle.v260.specs.Registers.{registers, register}

abbrev pub v260 : Module V260
v260 =
    record {
      scales = λ s. s.scales;
      scaled = scaled;
      registers = registers;
      register = register;
      formed = is_formed;
      unjoined = unjoined;
      width = Bits24;
      ignores = λ s k. is_joined s.switches k;
      pulsed = λ s k. pulsed s.switches s.scales.counts k;
      watched = λ s k. watched s.switches k;
    }
