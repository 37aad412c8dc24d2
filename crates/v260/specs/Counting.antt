-- Document 01, "Counting": the V260 (001, 3.1 and 3.2). Assumes nothing.
use Rattle.std.specs.Prelude.{ℕ, ◌+◌, ◌%◌, Bool, true, false, cond, List, Option, Some, None, eqb, ltb}
use Rattle.count.specs.Counter.{bit}
use Rattle.scaler.specs.Clock.{clocked}
use Rattle.v260.specs.declared.Switches.{Switches}
use Rattle.v260.specs.declared.V260.{V260}

-- the channel after channel k, channel 0 after 15
abbrev pub after : ℕ → ℕ
after k = (k + 1) % 16

-- whether channel k is joined to the one before it: "Its own input does nothing"
abbrev pub is_joined : Switches → ℕ → Bool
is_joined switches k = eqb (bit switches.joined k) 1

-- "a channel joined to the one before it (0 to 15) is clocked when that one goes from all ones to 0": sixteen in a
-- row at most
abbrev pub pulsed : Switches → List ℕ → ℕ → List ℕ
pulsed switches counts k = clocked 24 (λ k. is_joined switches (after k)) after 16 k counts

-- the interrupt switch of channel k (001, 3.2 and 4.4)
abbrev pub may_request : Switches → ℕ → Bool
may_request switches k = eqb (bit switches.interrupts k) 1

-- "jumper inserted : interrupt on 24th bit; jumper removed : interrupt on 16th bit" (001, 2.3)
abbrev pub interrupt_bit : Bool → ℕ
interrupt_bit true = 23
interrupt_bit false = 15

-- "channels 0..7 (JP18) and channels 8..15 (JP17)"
abbrev pub watched_bit : Switches → ℕ → ℕ
watched_bit switches k = cond (ltb k 8) (interrupt_bit switches.jp18) (interrupt_bit switches.jp17)

-- the bit that is watched of channel k, if one is: "in every enabled channel, joined or not"
abbrev pub watched : Switches → ℕ → Option ℕ
watched switches k = cond (may_request switches k) (Some (watched_bit switches k)) None

-- whether no channel is joined
abbrev pub unjoined : V260 → Bool
unjoined s = eqb s.switches.joined 0
