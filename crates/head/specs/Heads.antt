-- A head of numbers; docs/FORMATS.md: "A number on standard input is a log number", and a head is refused for a fault
-- "of its numbers" and for one outside its range, "each as soon as its number is read". Assumes nothing.
use Rattle.std.specs.Prelude.{ℕ, zero, suc, ◌≤◌, Bool, true, false, Option, List, [], ◌∷◌, ◌≡◌, Result, Ok, Err, length, set, take, replicate}
use Rattle.benchlog.specs.Entries.{argument_at}
use Rattle.benchlog.specs.declared.Fault.{Fault}
use Rattle.benchlog.specs.declared.Fault.TheVariants.{Ends}
use Rattle.benchlog.specs.declared.Numeral.{Numeral}
use Rattle.benchlog.specs.declared.Refused.{Refused}
use Rattle.stdio.specs.Listings.{is_well}
use Rattle.stdio.specs.declared.Amiss.{Amiss}
use Rattle.stdio.specs.declared.Listing.{Listing}
use Rattle.head.specs.declared.Head.{Head}

-- every number is read, and `after` is the place after the last
abbrev pub done_head : List ℕ → ℕ → Result Head Fault
done_head values after = Ok (record { values = values; after = after })

-- a number that is read, and what follows it; or its fault
abbrev pub next_in : Result Numeral Refused → (ℕ → ℕ → Result Head Fault) → Result Head Fault
next_in (Err r) rest = Err r.fault
next_in (Ok n) rest = rest n.value n.next

-- the head from the place `at` on, where i numbers are read and these limits are left: "each as soon as its number is
-- read"
unfoldable pub head_from : List ℕ → ℕ → List ℕ → ℕ → List ℕ → Result Head Fault
head_from log at [] i values = done_head values at
head_from log at (most ∷ rest) i values = next_in (argument_at log at most) (λ v next. head_from log next rest (suc i) (set values i v))

-- the head of an input, given the limit of each of its numbers
unfoldable pub head_of : List ℕ → List ℕ → Result Head Fault
head_of log limits = head_from log 0 limits 0 (replicate 40 0)

-- whether an input ends inside its head: 30
abbrev pub ends_inside : Result Head Fault → Bool
ends_inside (Err Ends) = true
ends_inside _ = false

abbrev pub is_cut : List ℕ → List ℕ → Bool
is_cut log limits = ends_inside (head_of log (take 40 limits))

-- a listing of which no byte of the input is used, and nothing is put out; it goes on unless a read failed
abbrev pub unused : ℕ → Bool → Option Amiss → Listing
unused have ended amiss = record { used = 0; have = have; ended = ended; base = 0; at = 0; more = is_well amiss; amiss = amiss }

-- a listing that has begun: if it goes on, the bytes that are had, at the front of the buffer, end inside the head
-- only if the input does
abbrev pub Begun : List ℕ → List ℕ → Listing → Type 0
Begun buf limits l =
    (l ≡ unused l.have l.ended l.amiss)
    × (l.have ≤ length buf)
    × (l.more ≡ true → l.ended ≡ false → is_cut (take l.have buf) limits ≡ false)

-- the lent words "are 1, 2, 3 .. at first": n of them, from this one on
unfoldable pub up_from : ℕ → ℕ → List ℕ
up_from zero word = []
up_from (suc n) word = word ∷ up_from n (suc word)
