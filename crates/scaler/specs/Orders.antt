-- What the registers, lines and the button of the V260 and the V560 do alike (document 01, "Counting" and "Registers
-- of the V260 and V560"; sections 3 and 4 of source documents 000 and 001). Assumes nothing.
use Rattle.std.specs.Prelude.{ℕ, Bool, true, false, ◌||◌, List, replicate}
use Rattle.bus.specs.declared.interrupter.Interrupter.{Interrupter}
use Rattle.bus.specs.Interrupting.{generating, released, cleared}
use Rattle.scaler.specs.declared.Scales.{Scales}
use Rattle.scaler.specs.declared.Obeyed.{Obeyed}
use Rattle.scaler.specs.declared.Order.{Order}
use Rattle.scaler.specs.declared.Order.TheVariants.{ClearAccess, VetoSet, VetoReset, Enable, Disable, RemoveRequest, ClearLine, VetoLine, ManClr}

-- power-on, 000, 3.7 and 001, 3.6: "all the scales are cleared", the VME veto is cleared; latches 0, the front line
-- off
abbrev pub fresh : Scales
fresh = record { counts = replicate 16 0; latches = replicate 16 0; line = false; vme = false }

-- "inhibited by the front line or the VME setting"
abbrev pub inhibited : Scales → Bool
inhibited s = s.line || s.vme

-- the scales with other counts
abbrev pub counting : List ℕ → Scales → Scales
counting counts s = record { counts = counts; latches = s.latches; line = s.line; vme = s.vme }

-- "zeroes the scales"; "32-bit reads and clears leave that latch"
abbrev pub zeroed : Scales → Scales
zeroed s = counting (replicate 16 0) s

-- "veto set and reset": 000, 4.6; 001, 4.5
abbrev pub vetoed : Bool → Scales → Scales
vetoed on s = record { counts = s.counts; latches = s.latches; line = s.line; vme = on }

-- the front line: 000, 3.4; 001, 3.3
abbrev pub lined : Bool → Scales → Scales
lined on s = record { counts = s.counts; latches = s.latches; line = on; vme = s.vme }

abbrev pub both : Scales → Interrupter → Obeyed
both s i = record { scales = s; interrupter = i }

-- "The clear access zeroes the scales, removes the request and disables generation .. The CLEAR line zeroes the
-- scales only. MAN CLR does all three and clears the VME veto."
abbrev pub obeyed : Order → Scales → Interrupter → Obeyed
obeyed ClearAccess s i = both (zeroed s) (cleared i)
obeyed VetoSet s i = both (vetoed true s) i
obeyed VetoReset s i = both (vetoed false s) i
obeyed Enable s i = both s (generating true i)
obeyed Disable s i = both s (generating false i)
obeyed RemoveRequest s i = both s (released i)
obeyed ClearLine s i = both (zeroed s) i
obeyed (VetoLine on) s i = both (lined on s) i
obeyed ManClr s i = both (vetoed false (zeroed s)) (cleared i)
