-- The interrupter (document 01, "Registers of the V260 and V560"; sections 3.2, 4 and 5 of source documents 000 and
-- 001). Assumes nothing.
use Rattle.std.specs.Prelude.{ℕ, Bool, true, false, cond, ◌&&◌, not, eqb, leb}
use Rattle.bus.specs.declared.interrupter.Interrupter.{Interrupter}

-- 000, 3.7 and 001, 3.6, power-on: "VME interrupt is disabled"; no request, vector 0
abbrev pub power_on : ℕ → Interrupter
power_on level = record { enabled = false; requested = false; level = level; vector = 0 }

-- 12: "level above 7"
abbrev pub well_formed : Interrupter → Bool
well_formed i = leb i.level 7

-- "enable, disable": 000, 4.11; 001, 4.10
abbrev pub generating : Bool → Interrupter → Interrupter
generating on i = record { enabled = on; requested = i.requested; level = i.level; vector = i.vector }

-- "request removal": 000, 4.10; 001, 4.9
abbrev pub released : Interrupter → Interrupter
released i = record { enabled = i.enabled; requested = false; level = i.level; vector = i.vector }

-- "removes the request and disables generation": section 4.7 of each
abbrev pub cleared : Interrupter → Interrupter
cleared i = generating false (released i)

-- "A request is raised in the step in which a watched bit goes from 0 to 1, if the channel or section and generation
-- are enabled", and, by section 5.6 of each, if the level is different from 0. `rose`: a watched bit of an enabled
-- channel or section did.
abbrev pub requests : Bool → Interrupter → Bool
requests rose i = rose && i.enabled && not (eqb i.level 0)

abbrev pub raised : Bool → Interrupter → Interrupter
raised rose i =
    record { enabled = i.enabled; requested = cond (requests rose i) true i.requested; level = i.level; vector = i.vector }

-- the level register: 000, 4.12
abbrev pub levelled : ℕ → Interrupter → Interrupter
levelled level i = record { enabled = i.enabled; requested = i.requested; level = level; vector = i.vector }

-- the vector register: 000, 4.13; 001, 4.12
abbrev pub vectored : ℕ → Interrupter → Interrupter
vectored vector i = record { enabled = i.enabled; requested = i.requested; level = i.level; vector = vector }
