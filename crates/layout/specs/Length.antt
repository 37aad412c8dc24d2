-- Document 01, "V830 store": Channel Enable, the event length, and the only way from words to events. Assumes nothing.
use Rattle.std.specs.Prelude.{ℕ, zero, suc, ◌+◌, ◌/◌, ◌%◌, cond, List, [], ◌∷◌, Option, Some, None, eqb}
use Rattle.std.specs.Int.Count.{ones_in}
use Rattle.layout.specs.declared.channels.Channels.{Channels}
use Rattle.layout.specs.declared.Events.{Events}
use Rattle.layout.specs.declared.Settings.{Settings}
use Rattle.layout.specs.declared.Words.{Words}

-- "A number of words and a number of events are two things"
abbrev pub words : ℕ → Words
words n = record { 0 = n }

abbrev pub events : ℕ → Events
events n = record { 0 = n }

-- "Channel Enable has one bit a channel": channel k in front of the others where its bit is one
abbrev pub channel_if : ℕ → ℕ → List ℕ → List ℕ
channel_if zero k others = others
channel_if (suc bit) k others = k ∷ others

-- the enabled ones of d channels from k on, ascending; the mask's lowest bit is that of k
unfoldable pub enabled_from : ℕ → ℕ → ℕ → List ℕ
enabled_from zero k mask = []
enabled_from (suc d) k mask = channel_if (mask % 2) k (enabled_from d (suc k) (mask / 2))

abbrev pub enabled_channels : ℕ → List ℕ
enabled_channels enable = enabled_from 32 0 enable

-- what an iterator over the enabled channels has left
abbrev pub channels_left : Channels → List ℕ
channels_left channels = enabled_channels channels.0

-- a header is one word
abbrev pub header_length : Settings → ℕ
header_length st = cond st.header 1 0

-- "Event length in words is the number of ones in it, plus 1 with header"
abbrev pub event_length : Settings → ℕ
event_length st = ones_in 32 st.enable + header_length st

-- "MEB Event Number is stored words divided by event length, rounded up, 0 if none"; none can be
-- told where "the event would have no words"
abbrev pub rounded_up : ℕ → ℕ → ℕ
rounded_up n d = n / d + cond (eqb (n % d) 0) 0 1

abbrev pub events_in : Settings → ℕ → Option Events
events_in st stored =
    cond (eqb stored 0) (Some (events 0))
    (cond (eqb (event_length st) 0) None
    (Some (events (rounded_up stored (event_length st)))))
