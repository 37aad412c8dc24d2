-- Document 01, "V830 store": "The memory is a lent stretch of 32-bit words, used round and round". Assumes nothing.
use Rattle.std.specs.Prelude.{ℕ, zero, suc, ◌+◌, ◌%◌, cond, List, [], ◌∷◌, ltb, get_or, set}

-- what is lent: the words
pub record Memory : Type 0 where
  pub words : List ℕ

abbrev pub lent : List ℕ → Memory
lent ws = record { words = ws }

-- the place behind a place of so many, the first behind the last
abbrev pub behind : ℕ → ℕ → ℕ
behind capacity at = cond (ltb (at + 1) capacity) (at + 1) 0

-- words put from a place on, past the last place on at the first; "Words outside those now written stay."
unfoldable pub put_round : ℕ → List ℕ → ℕ → List ℕ → List ℕ
put_round capacity memory at [] = memory
put_round capacity memory at (w ∷ ws) = put_round capacity (set memory (at % capacity) w) (suc at) ws

-- n words from a place on, round and round
unfoldable pub words_round : ℕ → List ℕ → ℕ → ℕ → List ℕ
words_round capacity memory at zero = []
words_round capacity memory at (suc n) = get_or memory (at % capacity) 0 ∷ words_round capacity memory (suc at) n
