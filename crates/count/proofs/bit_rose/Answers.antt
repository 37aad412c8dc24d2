-- A number below 2 ^ 32 has no bit from 32 on (`no_bit`); else the code's two tests are the definition's. Assumes
-- nothing.
use mathlib.Core.Path.{sym, ◌∙◌}
use borrow.Author.Rules.{rules}
use Rattle.count.proofs.Bits.{no_bit}
use Rattle.count.proofs.bit_rose.Goals.{then-bit-lt32, else-bit-lt32}
use Rattle.count.proofs.bit_rose.Goals as goal

pub returns-else-before-bit-eq0 : goal.returns-else-before-bit-eq0
returns-else-before-bit-eq0 c =
    let a = c.args in
    let fails = c.if-before-bit-eq0.false in
    elim c.if-bit-lt32.branch [
      | then-bit-lt32 w ↦ rw (sym w.value-is ∙ fails) fails
      | else-bit-lt32 w ↦ rw (no_bit 32 a.bit a.before w.if-bit-lt32.false (search rules), no_bit 32 a.bit a.after w.if-bit-lt32.false (search rules)) fails
    ]
