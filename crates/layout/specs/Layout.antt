-- Document 01, "Event layout"; section 3.2 of source document 002. Assumes nothing.
use Rattle.std.specs.Prelude.{ℕ, ◌+◌, ◌*◌, ◌%◌, ◌^◌, Bool, cond, List, ◌∷◌, map, get_or}
use Rattle.std.specs.Int.Count.{ones_in}
use Rattle.layout.specs.declared.Event.{Event}
use Rattle.layout.specs.declared.Settings.{Settings}
use Rattle.layout.specs.Length.{enabled_channels}

-- "Header: bits 31-27 GEO, 26 one, 25-24 zero, 23-18 channel count, 17-16 trigger source .., 15-0 the Trigger Counter
-- modulo 2^16"; of an event that can be written each field is within its bits (28)
abbrev pub header_of : Settings → Event → ℕ
header_of st ev = ev.geo * 2 ^ 27 + 1 * 2 ^ 26 + ones_in 32 st.enable * 2 ^ 18 + ev.source * 2 ^ 16 + ev.trigger

-- "Long: 32 bits. Short: 31-27 channel, 26 zero, 25-0 the count modulo 2^26."
abbrev pub datum_of : Bool → ℕ → ℕ → ℕ
datum_of short channel count = cond short (channel * 2 ^ 27 + count % 2 ^ 26) count

-- "Data in ascending enabled channel order."
abbrev pub data_of : Bool → List ℕ → List ℕ → List ℕ
data_of short counts channels = map (λ k. datum_of short k (get_or counts k 0)) channels

-- the words of an event
abbrev pub event_words : Settings → Event → List ℕ
event_words st ev =
    let body : List ℕ = data_of st.short ev.counts (enabled_channels st.enable) in
    cond st.header (header_of st ev ∷ body) body
