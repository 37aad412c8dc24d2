-- What a well-formed module has: GEO, capacity, first place and stored words within their bounds. Assumes nothing.
use Prim.Native.Nat.{◌<◌, ◌≤◌}
use mathlib.Core.Path.{◌≡◌}
use mathlib.Core.Bool.{true, ◌&&◌}
use borrow.Author.Tests.{leb-true}
use lib.Dec.{leb}
use Rattle.bus.proofs.Places.{left_of, right_of}
use Rattle.meb.specs.Stores.{fits}
use Rattle.meb.proofs.Fitting.{store_facts}
use Rattle.v830.specs.declared.V830.{V830}
use Rattle.v830.specs.State.{explained, formed}

pub formed_facts : (s : V830) → formed s ≡ true
    → (s.geo ≤ 31) × (1 ≤ s.store.capacity.0) × (s.store.capacity.0 ≤ 32768) × (s.store.first < s.store.capacity.0)
    × (s.store.stored.0 ≤ s.store.capacity.0)
unfolding formed
formed_facts s e =
    let two = left_of (leb s.geo 31 && fits s.store) _ (left_of (leb s.geo 31 && fits s.store && explained s) _ e) in
    let m = store_facts s.store (right_of (leb s.geo 31) _ two) in
    (leb-true s.geo 31 (left_of (leb s.geo 31) _ two), m.0, m.1, m.2, m.3)
