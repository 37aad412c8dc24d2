-- A listing under way; docs/FORMATS.md: "A fault ends the listing with the line `fault NUMBER PLACE`, PLACE being the
-- byte, counted from 0, at which the faulty entry (or head) begins"; "A listing that is cut by a failed read ends in
-- the line `failed read ERRNO` in place of what would follow." Assumes nothing.
use Rattle.std.specs.Prelude.{◌≡◌, ℕ, ◌+◌, ◌%◌, ◌^◌, Bool, true, false, cond, Option, None, Some, List, length, nat_le, nat_lt}
use Rattle.text.specs.Line.{fault_line, failed_line, put_in, after_in}
use Rattle.stdio.specs.declared.Amiss.{Amiss}
use Rattle.stdio.specs.declared.Amiss.TheVariants.{Fault, Refused, Wrong, Read, Write}
use Rattle.stdio.specs.declared.Listing.{Listing}
use Rattle.stdio.specs.Window.{Refilled, room_at}

-- nothing is read yet
abbrev pub begun : ℕ → Listing
begun at = record { used = 0; have = 0; ended = false; base = 0; at = at; more = true; amiss = None }

-- the place in the input of a place of the buffer; places are counted in 64 bits
abbrev pub place_of : Listing → ℕ → ℕ
place_of l at = (l.base + at) % 2 ^ 64

-- whether nothing is amiss
abbrev pub is_well : Option Amiss → Bool
is_well None = true
is_well (Some amiss) = false

-- the input buffer `before` became `after` and the listing l, which goes on, became r: more is read, and the buffer
-- begins at the first byte not used; the listing goes on unless the read failed
abbrev pub Gone : List ℕ → Listing → List ℕ → Listing → Type 0
Gone before l after r =
    Refilled before l.used l.have after (record { have = r.have; ended = r.ended; amiss = r.amiss })
    × (r ≡ record l { used = 0; have = r.have; ended = r.ended; base = place_of l l.used; more = is_well r.amiss; amiss = r.amiss })

-- where a listing does not go on nothing is read
abbrev pub ReadOnIf : Bool → List ℕ → Listing → List ℕ → Listing → Type 0
ReadOnIf true before l after r = Gone before l after r
ReadOnIf false before l after r = (after ≡ before) × (r ≡ l)

abbrev pub ReadOn : List ℕ → Listing → List ℕ → Listing → Type 0
ReadOn before l after r = ReadOnIf l.more before l after r

-- the listing with `at` bytes in the output buffer
abbrev pub moved_to : Listing → ℕ → Listing
moved_to l at = record l { at = at }

-- whether a write failed
abbrev pub is_lost : Option Amiss → Bool
is_lost None = false
is_lost (Some (Fault number place)) = false
is_lost (Some (Refused number place)) = false
is_lost (Some (Wrong number step)) = false
is_lost (Some (Read error)) = false
is_lost (Some (Write error)) = true

-- the listing when a write failed: it ends, and nothing more is written
abbrev pub lost_by : Option Amiss → Listing → Listing
lost_by amiss l = record l { at = 0; more = false; amiss = amiss }

-- the listing when its output is written, or when a write failed
abbrev pub written_by : Option Amiss → Listing → Listing
written_by amiss l = cond (is_lost amiss) (lost_by amiss l) (moved_to l 0)

-- the listing with room for `want` bytes in an output buffer of n: as it is where they fit, else written
abbrev pub roomy_by : Option Amiss → ℕ → Listing → ℕ → Listing
roomy_by amiss n l want = cond (nat_le (l.at + want) n) l (written_by amiss l)

-- the listing has ended; the first thing that is amiss is what is amiss
abbrev pub stopped : Listing → Option Amiss → Listing
stopped l amiss = record l { more = false; amiss = cond (is_well l.amiss) amiss l.amiss }

-- the line of a fault at the first byte not used
abbrev pub fault_of : Listing → ℕ → List ℕ
fault_of l number = fault_line number (place_of l l.used)

-- a listing ends with it
abbrev pub faulted : List ℕ → Listing → ℕ → Listing
faulted out l number = stopped (moved_to l (after_in 48 out l.at (fault_of l number))) (Some (Fault number (place_of l l.used)))

-- the output buffer then
abbrev pub fault_text : List ℕ → Listing → ℕ → List ℕ
fault_text out l number = put_in 48 out l.at (fault_of l number)

-- a listing ends: with the line of a fault, unless every byte of the input is used
abbrev pub end_of : List ℕ → Listing → ℕ → Listing
end_of out l number = cond (nat_lt l.used l.have) (faulted out l number) (stopped l None)

-- the output buffer then
abbrev pub end_text : List ℕ → Listing → ℕ → List ℕ
end_text out l number = cond (nat_lt l.used l.have) (fault_text out l number) out

-- the output buffer at the end: "ends in the line `failed read ERRNO` in place of what would follow", where a read
-- failed
abbrev pub closed_by : Option Amiss → List ℕ → Listing → List ℕ
closed_by (Some (Read error)) out l = put_in 33 out (room_at (length out) l.at 33) (failed_line error)
closed_by None out l = out
closed_by (Some (Fault number place)) out l = out
closed_by (Some (Refused number place)) out l = out
closed_by (Some (Wrong number step)) out l = out
closed_by (Some (Write error)) out l = out

abbrev pub closed_text : List ℕ → Listing → List ℕ
closed_text out l = closed_by l.amiss out l
