-- How a channel is clocked, and when one of sixteen channels asks for the interrupter (document 01, "Counting" and
-- "Registers of the V260 and V560"). Assumes nothing.
use Rattle.std.specs.Prelude.{ℕ, zero, suc, Bool, false, cond, ◌&&◌, ◌||◌, List, get_or, set}
use Rattle.count.specs.Counter.{next, carries}

-- a channel counts one
abbrev pub count_one : ℕ → ℕ → List ℕ → List ℕ
count_one w k counts = set counts k (next w (get_or counts k 0))

-- channel k is clocked: it counts one, and where it goes from all ones to 0 the channel after it, if that is joined
-- to it, is clocked in the same step. `joins k` says whether it is, `after k` which one that is; a module has at most
-- n in a row.
unfoldable pub clocked : ℕ → (ℕ → Bool) → (ℕ → ℕ) → ℕ → ℕ → List ℕ → List ℕ
clocked w joins after zero k counts = counts
clocked w joins after (suc n) k counts =
    cond (carries w (get_or counts k 0) && joins k)
    (clocked w joins after n (after k) (count_one w k counts))
    (count_one w k counts)

-- whether one of the n channels from k on does
unfoldable pub any_from : ℕ → ℕ → (ℕ → Bool) → Bool
any_from k zero does = false
any_from k (suc n) does = does k || any_from (suc k) n does
