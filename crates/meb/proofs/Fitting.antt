-- Within the bounds: what `fits` says of a store, and that emptying, handing out and putting leave a store within
-- them. Assumes nothing.
use Prim.Native.Nat.{ℕ, ◌+◌, ◌-◌, ◌<◌, ◌≤◌}
use mathlib.Core.Path.{◌≡◌, refl}
use mathlib.Core.Bool.{Bool, true, false, cond, ◌&&◌}
use mathlib.Core.List.{List}
use native.Mathlib.Decide.{dec_lt}
use native.Mathlib.Omega.{arith}
use borrow.Author.Tests.{leb-true, ltb-true, le-leb, lt-ltb, le-ltb}
use lib.Dec.{leb, ltb}
use lib.ListN.{length}
use Rattle.layout.proofs.Answers.{both}
use Rattle.meb.specs.declared.Store.{Store}
use Rattle.meb.specs.Ring.{Memory, behind}
use Rattle.meb.specs.Stores.{Filled, empty_of, emptied, fits, longer, put_of, shorter}

pub store_facts : (m : Store) → fits m ≡ true → (1 ≤ m.capacity.0) × (m.capacity.0 ≤ 32768) × (m.first < m.capacity.0) × (m.stored.0 ≤ m.capacity.0)
store_facts m e =
    let four = both (leb 1 m.capacity.0 && leb m.capacity.0 32768 && ltb m.first m.capacity.0) _ e in
    let three = both (leb 1 m.capacity.0 && leb m.capacity.0 32768) _ four.0 in
    let two = both (leb 1 m.capacity.0) _ three.0 in (
      leb-true 1 m.capacity.0 two.0,
      leb-true m.capacity.0 32768 two.1,
      ltb-true m.first m.capacity.0 three.1,
      leb-true m.stored.0 m.capacity.0 four.1,
    )

pub facts_fit : (m : Store) → (1 ≤ m.capacity.0) × (m.capacity.0 ≤ 32768) × (m.first < m.capacity.0) × (m.stored.0 ≤ m.capacity.0) → fits m ≡ true
facts_fit m f = rw (le-leb _ _ f.0, le-leb _ _ f.1, lt-ltb _ _ f.2, le-leb _ _ f.3)

-- of so many words none is stored
pub empty_fits : (c : ℕ) → 1 ≤ c → c ≤ 32768 → fits (empty_of c) ≡ true
empty_fits c l h = facts_fit (empty_of c) (l, h, omega arith, omega arith)

pub emptied_fits : (m : Store) → fits m ≡ true → fits (emptied m) ≡ true
emptied_fits m e = let f = store_facts m e in empty_fits m.capacity.0 f.0 f.1

-- the place behind a place is within so many
behind_below : (c at : ℕ) → 1 ≤ c → behind c at < c
behind_below c at l = go (dec_lt (at + 1) c)
  where
    go : Dec (at + 1 < c) → behind c at < c
    go (yes h) = rw (lt-ltb _ _ h) h
    go (no h) = rw (le-ltb (at + 1) c (omega (arith, h))) (omega arith)

pub shorter_fits : (m : Store) → fits m ≡ true → fits (shorter m) ≡ true
shorter_fits m e =
    let f = store_facts m e in facts_fit (shorter m) (f.0, f.1, behind_below m.capacity.0 m.first f.0, omega (arith, f.3))

module _ (m : Store) (memory : Memory) (ws : List ℕ) where
  -- what is there after an event, wherever its words were put: b says whether so many are free
  abbrev after : Bool → Memory → Filled
  after b put = cond b (record { store = longer (length ws) m; memory = put }) (record { store = m; memory = memory })

  pub put_fits : fits m ≡ true → fits (put_of m memory ws).store ≡ true
  put_fits e = cases (leb (length ws) (m.capacity.0 - m.stored.0)) _ refl
    where
      f : (1 ≤ m.capacity.0) × (m.capacity.0 ≤ 32768) × (m.first < m.capacity.0) × (m.stored.0 ≤ m.capacity.0)
      f = store_facts m e

      cases : (b : Bool) (put : Memory) → leb (length ws) (m.capacity.0 - m.stored.0) ≡ b → fits (after b put).store ≡ true
      cases true put l = facts_fit (longer (length ws) m) (f.0, f.1, f.2, omega (arith, f.3, leb-true (length ws) (m.capacity.0 - m.stored.0) l))
      cases false put l = e

  -- a memory's length does not change
  pub put_capacity : (put_of m memory ws).store.capacity ≡ m.capacity
  put_capacity = cases (leb (length ws) (m.capacity.0 - m.stored.0)) _
    where
      cases : (b : Bool) (put : Memory) → (after b put).store.capacity ≡ m.capacity
      cases true put = refl
      cases false put = refl
