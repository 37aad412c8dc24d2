-- The data are put behind the header, where there is one. Assumes nothing.
use native.Mathlib.Omega.{arith}
use Rattle.layout.proofs.Enabled.{length_enabled}
use Rattle.layout.proofs.writer.put_event.Goals as goal

pub put_data-requires : goal.put_data-requires
put_data-requires c = omega (arith, length_enabled 32 0 c.args.settings.enable, c.requires.3)
