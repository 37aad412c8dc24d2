-- The channels and the data that are left give the counts; one turn is one clause of the definition. Assumes nothing.
use Rattle.std.proofs.Common.{◌≡◌}
use lib.ListN.{replicate}
use Rattle.std.specs.Slice.Iter.{iter_rest}
use Rattle.layout.specs.Length.{enabled_channels, channels_left}
use Rattle.layout.specs.Reader.{counts_read}
use Rattle.layout.proofs.reader.decoded_counts.Given as goal

abbrev pub invariant-loop-channel : goal.invariant-loop-channel
invariant-loop-channel l =
    counts_read l.short (channels_left l.channel-iterator.a) (iter_rest l.channel-iterator.b) l.counts ≡ counts_read l.short (enabled_channels l.enable) l.body (replicate 32 0)
