-- One counter of w bits (document 01, "Counting"). Assumes nothing.
use Rattle.std.specs.Prelude.{ℕ, zero, suc, ◌+◌, ◌-◌, ◌/◌, ◌%◌, ◌^◌, Bool, ◌&&◌, eqb}
use Rattle.count.specs.declared.Width.{Width}
use Rattle.count.specs.declared.Width.TheVariants.{Bits24, Bits32}
use Rattle.count.specs.declared.Ticked.{Ticked}

-- "V260 (16 channels of 24 bits), V560 (16 of 32) and V830 (32 of 32)"
abbrev pub bits_of : Width → ℕ
bits_of Bits24 = 24
bits_of Bits32 = 32

-- "A counter of w bits counts modulo 2^w."
abbrev pub next : ℕ → ℕ → ℕ
next w x = (x + 1) % 2 ^ w

-- "when the low goes from all ones to 0"
abbrev pub carries : ℕ → ℕ → Bool
carries w x = eqb x (2 ^ w - 1)

-- one tick
abbrev pub tick_of : ℕ → ℕ → Ticked
tick_of w x = record { value = next w x; carry = carries w x }

-- bit k of x
abbrev pub bit : ℕ → ℕ → ℕ
bit x k = x / 2 ^ k % 2

-- "the step in which a watched bit goes from 0 to 1" (document 01, "Registers of the V260 and V560")
abbrev pub rises : ℕ → ℕ → ℕ → Bool
rises k before after = eqb (bit before k) 0 && eqb (bit after k) 1

-- "n pulses given at once are n single pulses": a step made n times
unfoldable pub iterate : {A : Type 0} → ℕ → (A → A) → A → A
iterate zero step s = s
iterate (suc n) step s = iterate n step (step s)
