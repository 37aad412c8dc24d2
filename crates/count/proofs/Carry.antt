-- The carry fact (T4's core), once for every width w and every number of parts: a chain of k parts of w bits, ticked
-- n times, holds its value plus n modulo 2 ^ (w * k). An induction on the parts, whose turn is one of two facts about
-- plain numbers: with a carry (`rolled`) and without one (`stepped`). Assumes nothing.
use Prim.Native.Nat.{ℕ, zero, suc, ◌+◌, ◌*◌, ◌-◌, ◌%◌, ◌^◌, ◌≤◌, ◌<◌}
use mathlib.Core.Path.{◌≡◌, refl, sym, ap, ◌∙◌}
use mathlib.Core.Bool.{Bool, true, false, cond}
use mathlib.Core.List.{List, [], ◌∷◌}
use native.Mathlib.Nat.{mul-suc, mul_comm, mul-le-mul_left, mod-eq_of_lt, mod_self, mod-lt, mod-add-mod, mul-zero, add-zero}
use native.Mathlib.Numerals.{add-one}
use native.Mathlib.Omega.{arith}
use native.Mathlib.Decide.{dec_lt}
use borrow.Author.Tests.{eqb-true, eqb-false}
use lib.ListN.{length}
use lib.Pow.{pow-add, pow_pos}
use Rattle.count.specs.Counter.{next, carries, iterate}
use Rattle.count.specs.Chain.{tick_chain, chain_value, Parts}

-- ---- two facts about plain numbers: a lowest part of modulus m, and v in the n states of the parts above it
module _ (m n v : ℕ) (h : v < n) where
  -- x + m * v stays below m * n
  below : (x : ℕ) → x < m → x + m * v < m * n
  below x b = omega (arith, mul-le-mul_left m h, mul-suc m v)

  -- no carry: the lowest part counts on
  stepped : (x : ℕ) → x + 1 < m → (x + 1) % m + m * v ≡ (x + m * v + 1) % (m * n)
  stepped x b =
      let l : x + m * v + 1 < m * n = omega (arith, below (x + 1) b) in
      rw (mod-eq_of_lt b, mod-eq_of_lt l) (omega arith)

  -- a carry: the lowest part goes to 0, and the parts above it count on
  rolled : (x t : ℕ) → x + 1 ≡ m → t ≡ (v + 1) % n → (x + 1) % m + m * t ≡ (x + m * v + 1) % (m * n)
  rolled x t e p = go (dec_lt (v + 1) n)
    where
      go : Dec (v + 1 < n) → (x + 1) % m + m * t ≡ (x + m * v + 1) % (m * n)
      go (yes l) =
          let q : t ≡ suc v = p ∙ mod-eq_of_lt l ∙ add-one v in
          let f : m * suc (suc v) ≤ m * n = mul-le-mul_left m (omega arith) in
          let b : x + m * v + 1 < m * n = omega (arith, mul-suc m v, mul-suc m (suc v)) in
          rw (e, mod_self, q, mul-suc, mod-eq_of_lt b) (omega arith)
      go (no l) =
          let q : n ≡ suc v = omega arith in
          let z : t ≡ 0 = p ∙ ap (λ (k : ℕ). (v + 1) % k) (q ∙ sym (add-one v)) ∙ mod_self (v + 1) in
          let b : x + m * v + 1 ≡ m * n = rw (q, mul-suc) (omega arith) in
          rw (e, mod_self, z, mul-zero, b, mod_self)

-- ---- the laws of a chain
-- what holds of the parts above, clocked or not, holds of what a test picks
pub on_carry : (P : List ℕ → Type 0) (b : Bool) (up same : List ℕ) → (b ≡ true → P up) → (b ≡ false → P same) → P (cond b up same)
on_carry P true up same t f = t refl
on_carry P false up same t f = f refl

pub length_tick : (w : ℕ) (xs : List ℕ) → length (tick_chain w xs) ≡ length xs
unfolding tick_chain
length_tick w [] = refl
length_tick w (x ∷ xs) =
    ap suc (on_carry (λ (l : List ℕ). length l ≡ length xs) (carries w x) (tick_chain w xs) xs (λ _. length_tick w xs) (λ _. refl))

pub parts_tick : (w : ℕ) (xs : List ℕ) → Parts w xs → Parts w (tick_chain w xs)
unfolding tick_chain Parts
parts_tick w [] p = tt
parts_tick w (x ∷ xs) p =
    (mod-lt (x + 1) (pow_pos w), on_carry (Parts w) (carries w x) (tick_chain w xs) xs (λ _. parts_tick w xs p.1) (λ _. p.1))

-- 2 ^ (w * k) of one part more
more : (w k : ℕ) → 2 ^ (w * suc k) ≡ 2 ^ w * 2 ^ (w * k)
more w k = rw (mul-suc, pow-add) (mul_comm (2 ^ (w * k)) (2 ^ w))

-- a chain of k parts of w bits holds less than 2 ^ (w * k)
pub value_lt : (w : ℕ) (xs : List ℕ) → Parts w xs → chain_value w xs < 2 ^ (w * length xs)
unfolding Parts chain_value
value_lt w [] p = rw mul-zero (omega arith)
value_lt w (x ∷ xs) p = rw more (below (2 ^ w) (2 ^ (w * length xs)) (chain_value w xs) (value_lt w xs p.1) x p.0)

-- one tick of a chain adds one to what it holds
pub chain_tick : (w : ℕ) (xs : List ℕ) → Parts w xs → chain_value w (tick_chain w xs) ≡ (chain_value w xs + 1) % 2 ^ (w * length xs)
unfolding tick_chain Parts chain_value
chain_tick w [] p = rw mul-zero
chain_tick w (x ∷ xs) p =
    let v = chain_value w xs in
    let n = 2 ^ (w * length xs) in
    let l : v < n = value_lt w xs p.1 in
    rw more
    (on_carry (λ (l : List ℕ). next w x + 2 ^ w * chain_value w l ≡ (x + 2 ^ w * v + 1) % (2 ^ w * n)) (carries w x) (tick_chain w xs) xs
    (λ e. rolled (2 ^ w) n v l x (chain_value w (tick_chain w xs)) (omega (arith, pow_pos w, eqb-true x (2 ^ w - 1) e)) (chain_tick w xs p.1))
    (λ e. stepped (2 ^ w) n v l x (omega (arith, p.0, eqb-false x (2 ^ w - 1) e))))

-- n ticks of a chain of k parts of w bits that holds x leave (x + n) modulo 2 ^ (w * k)
pub chain_ticks : (w n : ℕ) (xs : List ℕ) → Parts w xs
    → chain_value w (iterate n (tick_chain w) xs) ≡ (chain_value w xs + n) % 2 ^ (w * length xs)
unfolding iterate
chain_ticks w zero xs p = rw add-zero (sym (mod-eq_of_lt (value_lt w xs p)))
chain_ticks w (suc n) xs p =
    chain_ticks w n (tick_chain w xs) (parts_tick w xs p)
    ∙ rw (length_tick, chain_tick w xs p, mod-add-mod) (ap (λ (k : ℕ). k % 2 ^ (w * length xs)) (omega arith))
