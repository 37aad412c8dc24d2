-- Laws of the enabled channels: how many they are, and the next of them, by the zeros below the mask's lowest one.
-- Assumes nothing.
use mathlib.Core.Path.{◌≡◌, refl, ap, ◌∙◌}
use mathlib.Core.List.{List, [], ◌∷◌}
use Prim.Native.Nat.{ℕ, zero, suc, ◌+◌, ◌-◌, ◌*◌, ◌/◌, ◌%◌, ◌^◌, ◌≤◌, ◌<◌}
use native.Mathlib.Nat.{add-suc, suc-add, add-zero, pow-suc, zero-add, one-mul}
use native.Mathlib.Omega.{arith}
use lib.Arith.{lt-one}
use lib.Count.{ones_in, ones, ones_step, count_trailing_zeros, under}
use lib.ListN.{length}
use lib.Pow.{pow_pos, shl_exact}
use Rattle.layout.specs.Length.{channel_if, enabled_from, enabled_channels}

length_channel_if : (b k : ℕ) (ks : List ℕ) → b < 2 → length (channel_if b k ks) ≡ b + length ks
length_channel_if zero k ks h = omega arith
length_channel_if (suc zero) k ks h = omega arith
length_channel_if (suc (suc b)) k ks h = absurd (omega arith)

-- they are as many as the mask has ones
pub length_enabled : (d k m : ℕ) → length (enabled_from d k m) ≡ ones_in d m
unfolding enabled_from ones_in
length_enabled zero k m = refl
length_enabled (suc d) k m =
    length_channel_if (m % 2) k (enabled_from d (suc k) (m / 2)) (omega arith) ∙ ap (λ (n : ℕ). m % 2 + n) (length_enabled d (suc k) (m / 2))

-- d bits have at most d ones
pub ones_in_le : (d m : ℕ) → ones_in d m ≤ d
unfolding ones_in
ones_in_le zero m = omega arith
ones_in_le (suc d) m = omega (arith, ones_in_le d (m / 2))

-- all the ones of a number of d bits
pub ones_all : (d m : ℕ) → m < 2 ^ d → ones m ≡ ones_in d m
unfolding ones ones_in
ones_all zero m h = rw (lt-one h)
ones_all (suc d) m h = ones_step m ∙ ap (λ (n : ℕ). m % 2 + n) (ones_all d (m / 2) (omega (arith, pow-suc 2 d)))

-- 0 has no ones, and of the numbers of d bits only 0
pub ones_of_zero : (d : ℕ) → ones_in d 0 ≡ 0
unfolding ones_in
ones_of_zero zero = refl
ones_of_zero (suc d) = rw (ones_of_zero d)

pub only_zero : (d m : ℕ) → m < 2 ^ d → ones_in d m ≡ 0 → m ≡ 0
unfolding ones_in
only_zero zero m h e = lt-one h
only_zero (suc d) m h e = omega (arith, only_zero d (m / 2) (omega (arith, pow-suc 2 d)) (omega arith))

-- no ones, no channels
pub enabled_none : (d k : ℕ) → enabled_from d k 0 ≡ []
unfolding enabled_from
enabled_none zero k = refl
enabled_none (suc d) k = enabled_none d (suc k)

-- channel k + t is the next one, where t zeros stand below the lowest one of the mask; those after it are the
-- channels of the mask without that one
abbrev pub NextIs : ℕ → ℕ → ℕ → ℕ → Type 0
NextIs d k m t = (t < d) × (2 ^ t ≤ m) × (enabled_from d k m ≡ (k + t) ∷ enabled_from d k (m - 2 ^ t))

pub enabled_next : (d k m : ℕ) → 0 < m → m < 2 ^ d → NextIs d k m (count_trailing_zeros d m)
unfolding enabled_from count_trailing_zeros
enabled_next zero k m p h = absurd (omega (arith, lt-one h))
enabled_next (suc d) k m p h = go (m % 2) refl (λ q. enabled_next d (suc k) (m / 2) q (omega (arith, pow-suc 2 d)))
  where
    go : (b : ℕ) → m % 2 ≡ b → (0 < m / 2 → NextIs d (suc k) (m / 2) (count_trailing_zeros d (m / 2)))
        → (under b (count_trailing_zeros d (m / 2)) < suc d) × (2 ^ under b (count_trailing_zeros d (m / 2)) ≤ m)
        × (channel_if b k (enabled_from d (suc k) (m / 2)) ≡ (k + under b (count_trailing_zeros d (m / 2))) ∷ enabled_from (suc d) k (m - 2 ^ under b (count_trailing_zeros d (m / 2))))
    go zero e ih =
        let t : ℕ = count_trailing_zeros d (m / 2) in
        let n = ih (omega arith) in
        let l : 2 ^ suc t ≡ 2 ^ t * 2 = pow-suc 2 t in
        let b : (m - 2 ^ suc t) % 2 ≡ 0 = omega (arith, n.1, l) in
        let r : (m - 2 ^ suc t) / 2 ≡ m / 2 - 2 ^ t = omega (arith, n.1, l) in
        (omega (arith, n.0), omega (arith, n.1, l), n.2 ∙ rw (b, r, add-suc, suc-add))
    go (suc b) e ih =
        let z : (m - 1) % 2 ≡ 0 = omega arith in
        let r : (m - 1) / 2 ≡ m / 2 = omega arith in
        (omega arith, omega arith, rw (z, r, add-zero))

-- the same of 32 channels, the lowest one taken off as `left - (1 << channel)`
abbrev pub NextOf : ℕ → ℕ → Type 0
NextOf m t = (t < 32) × (1 * 2 ^ t % 2 ^ 32 ≤ m) × (m - 1 * 2 ^ t % 2 ^ 32 < m) × (enabled_channels m ≡ t ∷ enabled_channels (m - 1 * 2 ^ t % 2 ^ 32))

pub next_of : (m : ℕ) → 0 < m → m < 2 ^ 32 → NextOf m (count_trailing_zeros 32 m)
next_of m p h =
    let t : ℕ = count_trailing_zeros 32 m in
    let n : NextIs 32 0 m t = enabled_next 32 0 m p h in
    let s : 1 * 2 ^ t % 2 ^ 32 ≡ 2 ^ t = shl_exact 1 t 32 (omega arith) (omega (arith, n.0)) ∙ one-mul (2 ^ t) in
    (n.0, rw s n.1, rw s (omega (arith, n.1, pow_pos t)), rw s (rw zero-add at n.2))
