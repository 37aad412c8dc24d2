-- What a run of channels has counted: m ticks of the chain that it is, and so, by the carry law, m more modulo 2 ^ (w
-- * channels). Assumes nothing.
use Prim.Native.Nat.{ℕ, zero, suc, ◌+◌, ◌*◌, ◌%◌, ◌^◌}
use mathlib.Core.Path.{◌≡◌, refl, sym, ap, ◌∙◌}
use mathlib.Core.List.{List}
use native.Mathlib.Nat.{zero-add, mul-zero}
use lib.ListN.{length, length-map, replicate}
use lib.Pow.{pow_pos}
use Rattle.count.specs.Counter.{iterate}
use Rattle.count.specs.Chain.{tick_chain, chain_value, Parts}
use Rattle.count.proofs.Carry.{chain_ticks}
use Rattle.count.proofs.Repeats.{iterate_add}
use Rattle.scaler.specs.Held.{counts_of, held}

-- the counts `before` became `after`, and those of the run were ticked m times
pub record Counted (w : ℕ) (run : List ℕ) (m : ℕ) (before after : List ℕ) : Type 0 where
  pub size : length after ≡ length before
  pub ticks : counts_of run after ≡ iterate m (tick_chain w) (counts_of run before)

module _ (w : ℕ) (run : List ℕ) where
  pub counted_none : (counts : List ℕ) → Counted w run 0 counts counts
  unfolding iterate
  counted_none counts = record { size = refl; ticks = refl }

  pub counted_then : {a b c : List ℕ} (m n : ℕ) → Counted w run m a b → Counted w run n b c → Counted w run (m + n) a c
  counted_then {a = a} {b = b} m n p q =
      record { size = q.size ∙ p.size; ticks = q.ticks ∙ ap (iterate n (tick_chain w)) p.ticks ∙ sym (iterate_add m n (tick_chain w) (counts_of run a)) }

  -- the carry law, for what a run holds
  pub counted_held : {a b : List ℕ} (m : ℕ) → Parts w (counts_of run a) → Counted w run m a b
      → held w run b ≡ (held w run a + m) % 2 ^ (w * length run)
  counted_held {a = a} m p q =
      ap (chain_value w) q.ticks ∙ chain_ticks w m (counts_of run a) p ∙ rw length-map

-- counts that are all zero
pub zero_parts : (w n : ℕ) → Parts w (replicate n 0)
unfolding Parts
zero_parts w zero = tt
zero_parts w (suc n) = (pow_pos w, zero_parts w n)

pub zero_held : (w n : ℕ) → chain_value w (replicate n 0) ≡ 0
unfolding chain_value
zero_held w zero = refl
zero_held w (suc n) = rw (zero_held w n, mul-zero, zero-add)
