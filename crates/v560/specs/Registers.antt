-- The registers of the V560 (table 4.1 and sections 4.4 to 4.13 of source document 000; document 01, "Registers of
-- the V260 and V560"). Assumes nothing.
use Rattle.std.specs.Prelude.{ℕ, ◌+◌, ◌/◌, ◌%◌, Bool, true, false, cond, not, List, [], ◌∷◌, eqb, get_or, set}
use Rattle.bus.specs.declared.Access.{Access}
use Rattle.bus.specs.declared.Refusal.TheVariants.{NotInTable}
use Rattle.bus.specs.declared.interrupter.Interrupter.{Interrupter}
use Rattle.bus.specs.declared.table.Widths.TheVariants.{D16, D16D32}
use Rattle.bus.specs.declared.table.Directions.TheVariants.{Read, ReadWrite}
use Rattle.bus.specs.declared.table.Row.{Row}
use Rattle.bus.specs.Interrupting.{levelled, vectored}
use Rattle.bus.specs.Table.{row}
use Rattle.scaler.specs.declared.Register.{Register}
use Rattle.scaler.specs.declared.Register.TheVariants.{Status, ScaleIncrease, VetoReset, VetoSet, ClearAccess, ScaleCounters, LowerHalves, RequestRegister, ClearInterrupt, DisableInterrupt, EnableInterrupt, LevelRegister, VectorRegister}
use Rattle.scaler.specs.declared.Scales.{Scales}
use Rattle.scaler.specs.declared.module.Outcome.{Outcome}
use Rattle.scaler.specs.Orders.{inhibited}
use Rattle.scaler.specs.Outcomes.{refused, done}
use Rattle.v560.specs.declared.V560.{V560}
use Rattle.v560.specs.Outcomes.{scaled}

-- table 4.1, from the top: first and last offset, of which every fourth is meant, widths, directions, register.
-- "A counter's entry covers its offset (V260 and V560: 16 or 32 bits) and, there, offset + 2 (16 only)".
abbrev pub registers : List (Row Register)
registers =
    row 0x58 0x58 D16 Read Status  -- Scale Status register
    ∷ row 0x56 0x56 D16 ReadWrite ScaleIncrease  -- Scale Increase
    ∷ row 0x54 0x54 D16 ReadWrite VetoReset  -- VME VETO reset
    ∷ row 0x52 0x52 D16 ReadWrite VetoSet  -- VME VETO set
    ∷ row 0x50 0x50 D16 ReadWrite ClearAccess  -- Scale clear
    ∷ row 0x10 0x4C D16D32 Read ScaleCounters  -- Counters 0 to 15
    ∷ row 0x12 0x4E D16 Read LowerHalves  -- their lower halves
    ∷ row 0x0E 0x0E D16 ReadWrite RequestRegister  -- Request register
    ∷ row 0x0C 0x0C D16 ReadWrite ClearInterrupt  -- Clear VME Interrupt
    ∷ row 0x0A 0x0A D16 ReadWrite DisableInterrupt  -- Disable VME Interrupt
    ∷ row 0x08 0x08 D16 ReadWrite EnableInterrupt  -- Enable VME Interrupt
    ∷ row 0x06 0x06 D16 ReadWrite LevelRegister  -- Interrupt Level & VETO register
    ∷ row 0x04 0x04 D16 ReadWrite VectorRegister  -- Interrupt Vector register
    ∷ []

-- "Bits 8 to 15 are unused and are read as "one"" (4.4, 4.9, 4.12, 4.13)
abbrev pub ones : ℕ
ones = 0xFF00

-- the veto latch: 1, "the module was able to count when the channel has been read" (4.8)
abbrev pub veto_latched : V560 → V560
veto_latched s = record { scales = s.scales; joined = s.joined; sections = s.sections; latch = not (inhibited s.scales) }

-- "latches that counter's whole word, in its own latch"
abbrev pub latched : ℕ → Scales → Scales
latched k c = record { counts = c.counts; latches = set c.latches k (get_or c.counts k 0); line = c.line; vme = c.vme }

-- a counter read: 32 bits, or the upper half, which latches the word; both latch the veto
abbrev pub counter_at : ℕ → V560 → Interrupter → ℕ → Outcome V560
counter_at k s i width =
    cond (eqb width 32)
    (done (get_or s.scales.counts k 0) (veto_latched s) i)
    (done (get_or s.scales.counts k 0 / 0x10000) (scaled (latched k s.scales) (veto_latched s)) i)

-- the request register (4.9): eight bits
abbrev pub request_for : Bool → V560 → Interrupter → ℕ → Outcome V560
request_for false s i word = done (ones + s.sections) s i
request_for true s i word = done 0 (record { scales = s.scales; joined = s.joined; sections = word % 0x100; latch = s.latch }) i

-- the level and veto register (4.12): bits 0 to 2 the level, 3 to 6 one, 7 the veto latch, 8 to 15 one
abbrev pub level_word : Bool → ℕ → ℕ
level_word latch level = ones + cond latch 0x80 0 + 0x78 + level

abbrev pub level_for : Bool → V560 → Interrupter → ℕ → Outcome V560
level_for false s i word = done (level_word s.latch i.level) s i
level_for true s i word = done 0 s (levelled (word % 8) i)

-- the vector register (4.13): eight bits
abbrev pub vector_for : Bool → V560 → Interrupter → ℕ → Outcome V560
vector_for false s i word = done (ones + i.vector) s i
vector_for true s i word = done 0 s (vectored (word % 0x100) i)

-- what an access does to a register that the V260 has otherwise and a place in it; 1: there is no other row
abbrev pub register : Register → ℕ → V560 → Interrupter → Access → Outcome V560
register Status place s i a = done (ones + s.joined) s i
register ScaleCounters place s i a = counter_at place s i a.width
register RequestRegister place s i a = request_for a.write s i a.«data»
register LevelRegister place s i a = level_for a.write s i a.«data»
register VectorRegister place s i a = vector_for a.write s i a.«data»
register _ place s i a = refused NotInTable s i
