-- A module of sixteen scales: what the V260 and the V560 each have of their own. All that is said of both alike is
-- said of these words (document 01). Assumes nothing.
use Rattle.std.specs.Prelude.{ℕ, Bool, List, Option}
use Rattle.count.specs.declared.Width.{Width}
use Rattle.bus.specs.declared.Access.{Access}
use Rattle.bus.specs.declared.interrupter.Interrupter.{Interrupter}
use Rattle.bus.specs.declared.table.Row.{Row}
use Rattle.scaler.specs.declared.Register.{Register}
use Rattle.scaler.specs.declared.Scales.{Scales}
use Rattle.scaler.specs.declared.module.Outcome.{Outcome}

-- of a module with the states S
pub record Module (S : Type 0) : Type 0 where
  -- the counts, the latches and the two vetoes of a state, and a state with others
  pub scales : S → Scales
  pub scaled : Scales → S → S
  -- "Offsets, widths and rights stand in one constant table per module", and what an access does to the registers
  -- that the other module has otherwise: the register and the place in it
  pub registers : List (Row Register)
  pub register : Register → ℕ → S → Interrupter → Access → Outcome S
  -- not 12: "a count above its width", "level above 7"
  pub formed : S → Interrupter → Bool
  -- not 4: "TEST or Scale Increase with any channel joined"
  pub unjoined : S → Bool
  -- "V260 (16 channels of 24 bits), V560 (16 of 32)"
  pub width : Width
  -- the inputs that do nothing, and the counts after a pulse on another
  pub ignores : S → ℕ → Bool
  pub pulsed : S → ℕ → List ℕ
  -- the bit of a channel that is watched, if one is
  pub watched : S → ℕ → Option ℕ
