-- The data of the channels left, stored from the place reached, give the whole; one turn is one datum. Assumes nothing.
use Prim.Native.Nat.{◌+◌}
use lib.Seq.{sets}
use Rattle.layout.specs.Layout.{data_of}
use Rattle.layout.specs.Length.{enabled_channels, channels_left}
use Rattle.layout.proofs.Turns.{Putting}
use Rattle.layout.proofs.writer.put_data.Given as goal

abbrev pub invariant-loop-at : goal.invariant-loop-at
invariant-loop-at l =
    Putting l.settings.short l.event.counts (sets l.initial.words l.from (data_of l.settings.short l.event.counts (enabled_channels l.settings.enable))) l.words (l.from + l.at-iterator.count) (channels_left l.at-iterator.iter)
