-- The two registers of the V260 and the V560 that the laws speak of by name (table 4.1 of 000 and of 001). Assumes
-- nothing.
use Rattle.std.specs.Prelude.{Bool, true, false}
use Rattle.scaler.specs.declared.Register.{Register}
use Rattle.scaler.specs.declared.Register.TheVariants.{ScaleIncrease, ClearAccess}

-- whether a register is Scale Increase
abbrev pub is_increase : Register → Bool
is_increase ScaleIncrease = true
is_increase _ = false

-- whether it is the clear access
abbrev pub is_clear : Register → Bool
is_clear ClearAccess = true
is_clear _ = false
