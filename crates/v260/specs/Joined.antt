-- The joined scales of the V260 (document 01, "Counting"; 001, 3.1). Assumes nothing.
use Rattle.std.specs.Prelude.{ℕ, suc, ◌+◌, ◌%◌, ◌≤◌, ◌<◌, ◌≡◌, true, false, List}
use Rattle.scaler.specs.Held.{path}
use Rattle.v260.specs.declared.Switches.{Switches}
use Rattle.v260.specs.declared.V260.{V260}
use Rattle.v260.specs.Counting.{after, is_joined}

-- "A run of k channels with an unjoined first one": k + 1 channels from channel f on, round past 15; the first is not
-- joined to the one before it, the others are, and the channel behind them is not
pub record Joined (switches : Switches) (f k : ℕ) : Type 0 where
  pub first : f < 16
  pub many : k < 16
  pub own_input : is_joined switches f ≡ false
  pub joined : (j : ℕ) → 0 < j → j ≤ k → is_joined switches ((f + j) % 16) ≡ true
  pub ends : is_joined switches ((f + suc k) % 16) ≡ false

-- its channels, the lowest part first
abbrev pub channels : ℕ → ℕ → List ℕ
channels f k = path after (suc k) f

-- "With all sixteen joined": each channel is joined to the one before it
abbrev pub AllJoined : V260 → Type 0
AllJoined s = (x : ℕ) → x < 16 → is_joined s.switches x ≡ true
