-- What a program knows of the two buffers of its streams; what the system reads or writes cannot be said. Assumes
-- nothing.
use Rattle.std.specs.Prelude.{◌≡◌, ℕ, ◌+◌, ◌-◌, ◌≤◌, Bool, true, false, cond, ◌&&◌, Option, None, Some, List, length, take, drop, ◌==◌, nat_le}
use Rattle.stdio.specs.declared.Amiss.{Amiss}
use Rattle.stdio.specs.declared.Amiss.TheVariants.{Fault, Refused, Wrong, Read, Write}
use Rattle.stdio.specs.declared.Window.{Window}

-- the bytes from `used` up to `have` are still to be read
abbrev pub tail : List ℕ → ℕ → ℕ → List ℕ
tail buf used have = take (have - used) (drop used buf)

-- whether `used` and `have` are places of a buffer, one before the other
abbrev pub places : List ℕ → ℕ → ℕ → Bool
places buf used have = nat_le used have && nat_le have (length buf)

-- what a read left behind the `left` bytes that were there: the input has ended when nothing was read; a read that
-- failed has read nothing, and has not ended it
abbrev pub Left : ℕ → Window → Option Amiss → Type 0
Left left r None = r.ended ≡ (r.have == left)
Left left r (Some (Read error)) = (r.have ≡ left) × (r.ended ≡ false)
Left left r (Some (Fault number place)) = ⊥
Left left r (Some (Refused number place)) = ⊥
Left left r (Some (Wrong number step)) = ⊥
Left left r (Some (Write error)) = ⊥

-- the buffer `before` became `after`: where `used` and `have` are places of it the tail stands at its front, what was
-- read behind it; elsewhere nothing changed, and there is nothing to read
abbrev pub RefilledIf : Bool → List ℕ → ℕ → ℕ → List ℕ → Window → Type 0
RefilledIf true before used have after r =
    (have - used ≤ r.have) × (take (have - used) after ≡ tail before used have) × Left (have - used) r r.amiss
RefilledIf false before used have after r = (after ≡ before) × (r ≡ record { have = 0; ended = true; amiss = None })

abbrev pub Refilled : List ℕ → ℕ → ℕ → List ℕ → Window → Type 0
Refilled before used have after r = (r.have ≤ length before) × RefilledIf (places before used have) before used have after r

-- the place `at` where `want` bytes more fit a buffer of n, else 0
abbrev pub room_at : ℕ → ℕ → ℕ → ℕ
room_at n at want = cond (nat_le (at + want) n) at 0
