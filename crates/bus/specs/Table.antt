-- Document 01, "What stands on the bench": a module's table of registers and what an access reaches in it. Assumes
-- nothing.
use Rattle.std.specs.Prelude.{ℕ, ◌-◌, ◌/◌, ◌%◌, Bool, true, false, cond, ◌&&◌, ◌||◌, not, List, [], ◌∷◌, Result, Ok, Err, eqb, leb}
use Rattle.bus.specs.declared.Access.{Access}
use Rattle.bus.specs.declared.Refusal.{Refusal}
use Rattle.bus.specs.declared.Refusal.TheVariants.{NotInTable, WrongWidth, WrongDirection}
use Rattle.bus.specs.declared.table.Widths.{Widths}
use Rattle.bus.specs.declared.table.Widths.TheVariants.{D16, D32, D16D32, NoWidth}
use Rattle.bus.specs.declared.table.Directions.{Directions}
use Rattle.bus.specs.declared.table.Directions.TheVariants.{Read, Write, ReadWrite, NoDirection}
use Rattle.bus.specs.declared.table.Row.{Row}
use Rattle.bus.specs.declared.table.Reached.{Reached}

-- a row: first offset, last offset, widths, directions, and the register that it is of
abbrev pub row : {R : Type 0} → ℕ → ℕ → Widths → Directions → R → Row R
row first last widths directions register = (first, last, widths, directions, register)

-- "every fourth offset from its first", up to its last
abbrev pub covers : {R : Type 0} → Row R → ℕ → Bool
covers r o = leb r.0 o && leb o r.1 && eqb ((o - r.0) % 4) 0

-- "a width (16 or 32; any other gets 2)"; a row may take none
abbrev pub takes_width : Widths → ℕ → Bool
takes_width D16 w = eqb w 16
takes_width D32 w = eqb w 32
takes_width D16D32 w = eqb w 16 || eqb w 32
takes_width NoWidth w = false

-- a direction: of an access that writes, and of one that reads; a row may take neither
abbrev pub takes_direction : Directions → Bool → Bool
takes_direction Read write = not write
takes_direction Write write = write
takes_direction ReadWrite write = true
takes_direction NoDirection write = false

-- 2: the register does not take this width; 3: it does not take this direction; else the register and the place in it
abbrev pub reach : {R : Type 0} → Row R → Access → Result (Reached R) Refusal
reach r a =
    cond (takes_width r.2 a.width)
    (cond (takes_direction r.3 a.write)
    (Ok (record { register = r.4; place = (a.offset - r.0) / 4 }))
    (Err WrongDirection))
    (Err WrongWidth)

-- the look-up; 1: the offset is not in the module's table
unfoldable pub look_up : {R : Type 0} → List (Row R) → Access → Result (Reached R) Refusal
look_up [] a = Err NotInTable
look_up (r ∷ rs) a = cond (covers r a.offset) (reach r a) (look_up rs a)

-- what comes of an access: its refusal by the table, or what the register and the place give
abbrev pub by_table : {R O : Type 0} → (Refusal → O) → (R → ℕ → O) → Result (Reached R) Refusal → O
by_table refused performed (Err why) = refused why
by_table refused performed (Ok to) = performed to.register to.place

-- which number an access gets, line by line of document 01. 1: no row has the offset; 2: the row that has it does not
-- take the width; 3: nor the direction; else what its register gives
abbrev pub table_number : {R : Type 0} → List (Row R) → Access → (R → ℕ) → ℕ
table_number [] a given = 1
table_number (r ∷ rs) a given =
    cond (covers r a.offset)
    (cond (takes_width r.2 a.width) (cond (takes_direction r.3 a.write) (given r.4) 3) 2)
    (table_number rs a given)
