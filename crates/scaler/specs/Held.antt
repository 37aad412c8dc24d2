-- What a run of channels holds (document 01, "Counting"). Assumes nothing.
use Rattle.std.specs.Prelude.{ℕ, zero, suc, List, [], ◌∷◌, map, get_or}
use Rattle.count.specs.Chain.{chain_value}

-- the n channels from k on, each the one after the one before it
unfoldable pub path : (ℕ → ℕ) → ℕ → ℕ → List ℕ
path after zero k = []
path after (suc n) k = k ∷ path after n (after k)

-- the counts of some channels, in their order
abbrev pub counts_of : List ℕ → List ℕ → List ℕ
counts_of run counts = map (λ k. get_or counts k 0) run

-- what a run of channels of w bits holds, as one number, the lowest part first
abbrev pub held : ℕ → List ℕ → List ℕ → ℕ
held w run counts = chain_value w (counts_of run counts)
