-- What a head asks for; docs/FORMATS.md: "a head of 39 numbers, `header` (0 or 1), `short` (0 or 1), `enable`, `room`
-- (0 to 64), `geo`, `source`, `trigger`, and the counts `c0` to `c31`". Assumes nothing.
use Rattle.std.specs.Prelude.{ℕ, ◌-◌, ◌^◌, List, ◌∷◌, get_or, take, drop, replicate}
use Rattle.head.specs.declared.Head.{Head}
use Rattle.layout.specs.declared.Event.{Event}

-- their limits
abbrev pub limits_of : List ℕ
limits_of = 1 ∷ 1 ∷ (2 ^ 32 - 1) ∷ 64 ∷ replicate 35 (2 ^ 32 - 1)

-- the event
abbrev pub event_of : Head → Event
event_of head =
    let values : List ℕ = head.values in
    record { geo = get_or values 4 0; source = get_or values 5 0; trigger = get_or values 6 0; counts = take 32 (drop 7 values) }
