-- The registers of the V260 (table 4.1 and sections 4.4 to 4.12 of source document 001; document 01, "Registers of
-- the V260 and V560"). Assumes nothing.
use Rattle.std.specs.Prelude.{ℕ, ◌+◌, ◌/◌, ◌%◌, Bool, cond, List, [], ◌∷◌, eqb, get_or, set}
use Rattle.bus.specs.declared.Access.{Access}
use Rattle.bus.specs.declared.Refusal.TheVariants.{NotInTable}
use Rattle.bus.specs.declared.interrupter.Interrupter.{Interrupter}
use Rattle.bus.specs.declared.table.Widths.TheVariants.{D16, D16D32}
use Rattle.bus.specs.declared.table.Directions.TheVariants.{Read, Write, ReadWrite}
use Rattle.bus.specs.declared.table.Row.{Row}
use Rattle.bus.specs.Interrupting.{vectored}
use Rattle.bus.specs.Table.{row}
use Rattle.scaler.specs.declared.Register.{Register}
use Rattle.scaler.specs.declared.Register.TheVariants.{Status, ScaleIncrease, VetoReset, VetoSet, ClearAccess, ScaleCounters, LowerHalves, ClearInterrupt, DisableInterrupt, EnableInterrupt, LevelRegister, VectorRegister}
use Rattle.scaler.specs.declared.Scales.{Scales}
use Rattle.scaler.specs.declared.module.Outcome.{Outcome}
use Rattle.scaler.specs.Orders.{inhibited}
use Rattle.scaler.specs.Outcomes.{refused, done}
use Rattle.v260.specs.declared.V260.{V260}
use Rattle.v260.specs.Outcomes.{scaled}

-- table 4.1, from the top: first and last offset, of which every fourth is meant, widths, directions, register.
-- "A counter's entry covers its offset (V260 and V560: 16 or 32 bits) and, there, offset + 2 (16 only)".
abbrev pub registers : List (Row Register)
registers =
    row 0x58 0x58 D16 Read Status  -- Interrupt jumper status
    ∷ row 0x56 0x56 D16 ReadWrite ScaleIncrease  -- Scale increase
    ∷ row 0x54 0x54 D16 ReadWrite VetoReset  -- INHIBIT reset
    ∷ row 0x52 0x52 D16 ReadWrite VetoSet  -- INHIBIT set
    ∷ row 0x50 0x50 D16 ReadWrite ClearAccess  -- CLEAR scales
    ∷ row 0x10 0x4C D16D32 Read ScaleCounters  -- Counters 0 to 15
    ∷ row 0x12 0x4E D16 Read LowerHalves  -- their lower halves
    ∷ row 0x0C 0x0C D16 ReadWrite ClearInterrupt  -- CLEAR VME interrupt
    ∷ row 0x0A 0x0A D16 ReadWrite DisableInterrupt  -- DISABLE VME interrupt
    ∷ row 0x08 0x08 D16 ReadWrite EnableInterrupt  -- ENABLE VME interrupt
    ∷ row 0x06 0x06 D16 Read LevelRegister  -- Interrupt level
    ∷ row 0x04 0x04 D16 Write VectorRegister  -- Interrupt vector
    ∷ []

-- "A V260 counter reads as 24 bits, bits 24 to 30 one, bit 31 one when able to count (this paper decides)."
abbrev pub counter_word : Bool → ℕ → ℕ
counter_word inhibited count = cond inhibited 0 0x80000000 + 0x7F000000 + count

abbrev pub word_at : ℕ → Scales → ℕ
word_at k c = counter_word (inhibited c) (get_or c.counts k 0)

-- "latches that counter's whole word, in its own latch"
abbrev pub latched : ℕ → Scales → Scales
latched k c = record { counts = c.counts; latches = set c.latches k (word_at k c); line = c.line; vme = c.vme }

-- a counter read: 32 bits, or the upper half, which latches the word
abbrev pub counter_at : ℕ → V260 → Interrupter → ℕ → Outcome V260
counter_at k s i width =
    cond (eqb width 32)
    (done (word_at k s.scales) s i)
    (done (word_at k s.scales / 0x10000) (scaled (latched k s.scales) s) i)

-- what an access does to a register that the V560 has otherwise and a place in it: the status has all sixteen
-- switches (4.4), the level its three bits (4.11), the vector eight (4.12); 1: there is no other row
abbrev pub register : Register → ℕ → V260 → Interrupter → Access → Outcome V260
register Status place s i a = done s.switches.interrupts s i
register ScaleCounters place s i a = counter_at place s i a.width
register LevelRegister place s i a = done i.level s i
register VectorRegister place s i a = done 0 s (vectored (a.«data» % 0x100) i)
register _ place s i a = refused NotInTable s i
