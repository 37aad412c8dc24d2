-- A byte has no bit from 32 on (`no_bit`). Assumes nothing.
use Rattle.std.proofs.Common.{arith, rules}
use borrow.Author.Tests.{lt-leb}
use Rattle.count.proofs.Bits.{no_bit}
use Rattle.v830.proofs.state.is_set.Goals as goal

pub returns-else-bit-le31 : goal.returns-else-bit-le31
returns-else-bit-le31 c = let a = c.args in rw (no_bit 32 a.bit a.control (omega arith) (search rules), lt-leb _ _ c.if-bit-le31.false)
