-- Document 01, "Counting": the V560 (000, 3.1 and 3.2). Assumes nothing.
use Rattle.std.specs.Prelude.{ℕ, ◌+◌, ◌*◌, ◌-◌, ◌/◌, ◌%◌, Bool, cond, ◌&&◌, not, List, [], ◌∷◌, Option, Some, None, eqb}
use Rattle.count.specs.Counter.{bit}
use Rattle.scaler.specs.Clock.{clocked}
use Rattle.v560.specs.declared.V560.{V560}

-- section n is channels 2n and 2n+1; whether the section of channel k is joined
abbrev pub is_joined : ℕ → ℕ → Bool
is_joined joined k = eqb (bit joined (k / 2)) 1

-- the channels of section n, the low part first: 2n + 1, then 2n
abbrev pub section : ℕ → List ℕ
section n = (2 * n + 1) ∷ 2 * n ∷ []

-- "joined section n is a 64-bit scale, channel 2n+1 low, channel 2n high"
abbrev pub is_low : ℕ → ℕ → Bool
is_low joined k = is_joined joined k && eqb (k % 2) 1

-- "Input 2n then does nothing" of a joined section
abbrev pub is_high : ℕ → ℕ → Bool
is_high joined k = is_joined joined k && eqb (k % 2) 0

-- "The high part advances when the low goes from all ones to 0": channel 2n+1 clocks channel 2n, two in a row at most
abbrev pub pulsed : ℕ → List ℕ → ℕ → List ℕ
pulsed joined counts k = clocked 32 (is_low joined) (λ k. k - 1) 2 k counts

-- "V560 watches bit 31, of the even channel in a joined section", if the section is enabled (000, 4.9)
abbrev pub watches : ℕ → ℕ → ℕ → Bool
watches joined sections k = not (is_low joined k) && eqb (bit sections (k / 2)) 1

-- the bit of channel k that is watched, if one is
abbrev pub watched : V560 → ℕ → Option ℕ
watched s k = cond (watches s.joined s.sections k) (Some 31) None

-- whether no channel is joined
abbrev pub unjoined : V560 → Bool
unjoined s = eqb s.joined 0
