-- The channels and the data that are left decide; one turn is one clause of the definition. Assumes nothing.
use Rattle.std.specs.Slice.Iter.{iter_rest}
use Rattle.layout.specs.Length.{enabled_channels, channels_left}
use Rattle.layout.specs.Numbers.{passed}
use Rattle.layout.specs.Reader.{data_answer}
use Rattle.layout.proofs.Turns.{Left}
use Rattle.layout.proofs.reader.data_answered.Given as goal

abbrev pub invariant-loop-channel : goal.invariant-loop-channel
invariant-loop-channel l =
    Left (λ ks ws. data_answer ks ws passed) (data_answer (enabled_channels l.enable) l.body passed) (channels_left l.channel-iterator.a) (iter_rest l.channel-iterator.b)
