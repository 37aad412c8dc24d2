-- A chain of counters of w bits, the lowest part first (document 01, "Counting": the joined channels of the V260, the
-- joined sections of the V560). Assumes nothing.
use Rattle.std.specs.Prelude.{ℕ, ◌+◌, ◌*◌, ◌^◌, ◌<◌, cond, List, [], ◌∷◌}
use Rattle.count.specs.Counter.{next, carries}

-- one tick: a part is clocked when the one before it goes from all ones to 0
unfoldable pub tick_chain : ℕ → List ℕ → List ℕ
tick_chain w [] = []
tick_chain w (x ∷ xs) = next w x ∷ cond (carries w x) (tick_chain w xs) xs

-- what a chain holds, as one number
unfoldable pub chain_value : ℕ → List ℕ → ℕ
chain_value w [] = 0
chain_value w (x ∷ xs) = x + 2 ^ w * chain_value w xs

-- each part is a count of w bits
unfoldable pub Parts : ℕ → List ℕ → Type 0
Parts w [] = Unit {0}
Parts w (x ∷ xs) = (x < 2 ^ w) × Parts w xs
