use mathlib.Core.Path.{◌≡◌, refl}
use Prim.Native.Nat.{◌+◌}
use native.Mathlib.Nat.{add-zero}
use native.Mathlib.Omega.{arith}
use Rattle.layout.proofs.Turns.{channel_below, put_turn, put_over}
use Rattle.layout.proofs.writer.put_data.Goals as goal

pub loop-at-init : goal.loop-at-init
loop-at-init c = let e = c.enumerate-at-items.ensures in
    rw (c.into_iter-at-iterator.ensures.into_iter_gives, e.source, e.count, add-zero) (record { stored = refl; fits = c.requires })

pub bounds-event-channel : goal.bounds-event-channel
bounds-event-channel c = channel_below _ _ _ c.in-Some.ensures.steps.0

pub datum-requires : goal.datum-requires
datum-requires c = channel_below _ _ _ c.in-Some.ensures.steps.0

pub loop-at-preserved : goal.loop-at-preserved
loop-at-preserved c = let h = c.in-Some.ensures.steps in
    let next : c.args.from + (c.loop-at.at-iterator.count + 1) ≡ c.args.from + c.loop-at.at-iterator.count + 1 = omega arith in
    rw (c.datum.ensures, h.1, h.2, next) (put_turn c.loop-at.invariant h.0)

pub returns : goal.returns
returns c = put_over c.loop-at.invariant c.in-None.ensures.steps.0.0
