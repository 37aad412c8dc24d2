-- A number's last digits as the bytes of a word: counted up, shifted to the front, and put with what follows over
-- what is left of them. Assumes nothing.
use Rattle.std.proofs.Common.{◌≡◌, ℕ, zero, suc, ◌+◌, ◌-◌, ◌*◌, ◌/◌, ◌%◌, ◌^◌, ◌<◌, ◌≤◌, Bool, true, false, ltb, leb, List, [], ◌∷◌, ◌++◌, length, sym, refl, ap, ◌∙◌, ap₂, append_assoc, append-nil, add-zero, mul_assoc, pow-suc, mul-one, mul-div_cancel, arith, length-append, pow-add, ltb-false, ltb-true, le-leb}
use native.Mathlib.Nat.{pow-zero, one-le-pow, mul-mod_left}
use lib.Arith.{digits_div, digits_mod, mod-mul}
use Rattle.std.specs.Int.{bytes_high_first}
use Rattle.text.specs.Line.{line, put_in, after_in}
use Rattle.text.specs.Text.{put, after, decimal}
use Rattle.text.proofs.Decimal.{last_digits, decimal_last, decimal_one, decimal_next, decimal_round, line_least, length_line}
use Rattle.text.proofs.Putting.{put_more, put_again, length_put, after_fits}
use Rattle.night.specs.Tallies.{word_of, bytes_of}

-- eight digits are four and four
pub word_halves : (n : ℕ) → word_of 8 n ≡ word_of 4 (n / 10000) * 4294967296 + word_of 4 n
unfolding word_of
word_halves n = let e : n / 10000 ≡ n / 10 / 10 / 10 / 10 = omega arith in rw e (omega arith)

-- eight digits leave room in a word to count on in its last two bytes
pub word_below : (n : ℕ) → word_of 8 n + 247 < 2 ^ 64
unfolding word_of
word_below n = omega arith

word_last : (k n : ℕ) → word_of (suc k) n ≡ word_of k (n / 10) * 256 + (48 + n % 10)
unfolding word_of
word_last k n = refl

-- the next number, where its last digit is not 0, has one more in the last byte
word_next : (k n m : ℕ) → m / 10 ≡ n / 10 → m % 10 ≡ n % 10 + 1 → word_of (suc k) m ≡ word_of (suc k) n + 1
unfolding word_of
word_next k n m q r = rw (q, r) (omega arith)

-- and where the last digit goes round from 9 to 0, and the one before it does not, one more in that byte and nine
-- fewer in the last
word_round : (k n m : ℕ) → m / 10 / 10 ≡ n / 10 / 10 → m / 10 % 10 ≡ n / 10 % 10 + 1 → n % 10 ≡ 9 → m % 10 ≡ 0 → word_of (suc (suc k)) m ≡ word_of (suc (suc k)) n + 247
word_round k n m q r s t =
    let w : word_of (suc k) (m / 10) ≡ word_of (suc k) (n / 10) + 1 = word_next k (n / 10) (m / 10) q r in
    word_last (suc k) m ∙ omega (arith, w, word_last (suc k) n)

-- the last two bytes of a word, and its two last digits
last_byte : (n : ℕ) → word_of 8 n % 256 ≡ 48 + n % 10
unfolding word_of
last_byte n = omega arith

byte_before : (n : ℕ) → word_of 8 n / 256 % 256 ≡ 48 + n / 10 % 10
unfolding word_of
byte_before n = omega arith

nine_last : (n : ℕ) → word_of 8 n % 256 ≡ 57 → n % 10 ≡ 9
nine_last n t = omega (arith, last_byte n)

tens_nine : (q : ℕ) → (q + 1) % 10 ≡ 0 → q % 10 ≡ 9
tens_nine q e = omega arith

two_digits : (n : ℕ) → 2 ≤ length (decimal n) → 10 ≤ n
two_digits n f = go (ltb n 10) refl
  where
    go : (b : Bool) → ltb n 10 ≡ b → 10 ≤ n
    go true e = absurd (omega (arith, f, ap length (decimal_one n (ltb-true n 10 e))))
    go false e = ltb-false n 10 e

next_below : (n m : ℕ) → n < 2 ^ 64 → m ≡ (n + 1) % 2 ^ 64 → (m ≡ 0 → ⊥) → m ≡ n + 1
next_below n m h e z = omega (arith, z)

-- the next number has one more in the last byte where that is not 9
pub counted_one : (n m : ℕ) → n < 2 ^ 64 → m ≡ (n + 1) % 2 ^ 64 → (m ≡ 0 → ⊥) → (word_of 8 n % 256 ≡ 57 → ⊥)
    → (word_of 8 m ≡ word_of 8 n + 1) × (length (decimal m) ≡ length (decimal n))
counted_one n m h e z t =
    let s : m ≡ n + 1 = next_below n m h e z in
    let d : n % 10 ≡ 9 → ⊥ = λ x. t (last_byte n ∙ ap (λ (k : ℕ). 48 + k) x) in
    (word_next 7 n m (omega (arith, d)) (omega (arith, d)), ap (λ (x : ℕ). length (decimal x)) s ∙ decimal_next n (λ x. d (omega arith)))

-- and where that is 9 and the byte before it is not, 247 more in both
round_numbers : (n m : ℕ) → m ≡ n + 1 → n % 10 ≡ 9 → (n / 10 % 10 ≡ 9 → ⊥) → (m / 10 / 10 ≡ n / 10 / 10) × (m / 10 % 10 ≡ n / 10 % 10 + 1) × (m % 10 ≡ 0)
round_numbers n m s d c = let q : m / 10 ≡ n / 10 + 1 = omega arith in (rw q (omega (arith, c)), rw q (omega (arith, c)), omega arith)

pub counted_two : (n m : ℕ) → n < 2 ^ 64 → m ≡ (n + 1) % 2 ^ 64 → (m ≡ 0 → ⊥) → word_of 8 n % 256 ≡ 57 → 2 ≤ length (decimal n)
    → (word_of 8 n / 256 % 256 ≡ 57 → ⊥) → (word_of 8 m ≡ word_of 8 n + 247) × (length (decimal m) ≡ length (decimal n))
counted_two n m h e z t f u =
    let s : m ≡ n + 1 = next_below n m h e z in
    let d : n % 10 ≡ 9 = nine_last n t in
    let c : n / 10 % 10 ≡ 9 → ⊥ = λ x. u (byte_before n ∙ ap (λ (k : ℕ). 48 + k) x) in
    let r = round_numbers n m s d c in
    (word_round 6 n m r.0 r.1 d r.2, ap (λ (x : ℕ). length (decimal x)) s ∙ decimal_round n (two_digits n f) d (λ x. c (tens_nine (n / 10) x)))

-- a number's last byte, and those before it
byte_cons : (k w x b : ℕ) → b < 256 → w ≡ x * 256 + b → bytes_of (suc k) w ≡ bytes_of k x ++ (b ∷ [])
unfolding bytes_of
byte_cons k w x b l e = rw e (ap₂ (λ (y z : ℕ). bytes_of k y ++ (z ∷ [])) (digits_div x l) (digits_mod x l))

pub length_bytes : (k w : ℕ) → length (bytes_of k w) ≡ k
unfolding bytes_of
length_bytes zero w = refl
length_bytes (suc k) w = rw (length-append, length_bytes k (w / 256)) (omega arith)

-- they are the bytes of the word, the highest first
pub high_first : (w : ℕ) → bytes_high_first 8 w ≡ bytes_of 8 w
unfolding bytes_of
high_first w =
    let e2 : w / 256 ^ 2 ≡ w / 256 / 256 = omega arith in
    let e3 : w / 256 ^ 3 ≡ w / 256 / 256 / 256 = omega arith in
    let e4 : w / 256 ^ 4 ≡ w / 256 / 256 / 256 / 256 = omega arith in
    let e5 : w / 256 ^ 5 ≡ w / 256 / 256 / 256 / 256 / 256 = omega arith in
    let e6 : w / 256 ^ 6 ≡ w / 256 / 256 / 256 / 256 / 256 / 256 = omega arith in
    let e7 : w / 256 ^ 7 ≡ w / 256 / 256 / 256 / 256 / 256 / 256 / 256 = omega arith in
    rw (e2, e3, e4, e5, e6, e7)

-- the last k digits are the last k bytes of the word
digit_bytes : (k j n : ℕ) → bytes_of k (word_of (k + j) n) ≡ last_digits k n
unfolding bytes_of word_of last_digits
digit_bytes zero j n = refl
digit_bytes (suc k) j n =
    let e : suc k + j ≡ suc (k + j) = omega arith in
    rw e (byte_cons k (word_of (suc (k + j)) n) (word_of (k + j) (n / 10)) (48 + n % 10) (omega arith) refl ∙ ap (λ (ds : List ℕ). ds ++ ((48 + n % 10) ∷ [])) (digit_bytes k j (n / 10)))

-- the last k bytes are all that they are taken of
low_bytes : (k w : ℕ) → bytes_of k (w % 256 ^ k) ≡ bytes_of k w
unfolding bytes_of
low_bytes zero w = refl
low_bytes (suc k) w =
    let p : 0 < 256 ^ k = one-le-pow k 256 (omega arith) in
    byte_cons k (w % 256 ^ suc k) (w / 256 % 256 ^ k) (w % 256) (omega arith) (ap (λ (m : ℕ). w % m) (pow-suc 256 k) ∙ mod-mul w p (omega arith))
    ∙ ap (λ (bs : List ℕ). bs ++ ((w % 256) ∷ [])) (low_bytes k (w / 256))

-- what a shift leaves behind them
unfoldable pub noughts : ℕ → List ℕ
noughts zero = []
noughts (suc j) = noughts j ++ (0 ∷ [])

length_noughts : (j : ℕ) → length (noughts j) ≡ j
unfolding noughts
length_noughts zero = refl
length_noughts (suc j) = rw (length-append, length_noughts j) (omega arith)

-- a word of k + j bytes, shifted by j of them: the last k, and noughts
shifted : (j k w : ℕ) → bytes_of (k + j) (w * 256 ^ j % 256 ^ (k + j)) ≡ bytes_of k w ++ noughts j
unfolding noughts
shifted zero k w = rw (add-zero, pow-zero, mul-one) (low_bytes k w ∙ sym (append-nil (bytes_of k w)))
shifted (suc j) k w =
    let p : 0 < 256 ^ (k + j) = one-le-pow (k + j) 256 (omega arith) in
    let v : ℕ = w * 256 ^ j in
    let e : k + suc j ≡ suc (k + j) = omega arith in
    let m : w * 256 ^ suc j ≡ v * 256 = ap (λ (x : ℕ). w * x) (pow-suc 256 j) ∙ sym (mul_assoc w (256 ^ j) 256) in
    let r : w * 256 ^ suc j % 256 ^ suc (k + j) ≡ v % 256 ^ (k + j) * 256 + 0 =
    ap₂ (λ (x y : ℕ). x % y) m (pow-suc 256 (k + j)) ∙ mod-mul (v * 256) p (omega arith)
    ∙ ap₂ (λ (x y : ℕ). x % 256 ^ (k + j) * 256 + y) (mul-div_cancel v (omega arith)) (mul-mod_left v 256) in
    rw e (byte_cons (k + j) (w * 256 ^ suc j % 256 ^ suc (k + j)) (v % 256 ^ (k + j)) 0 (omega arith) r
    ∙ ap (λ (bs : List ℕ). bs ++ (0 ∷ [])) (shifted j k w) ∙ append_assoc (bytes_of k w) (noughts j) (0 ∷ []))

-- a power of 256 is one of 2
pow_bytes : (j : ℕ) → 2 ^ (8 * j) ≡ 256 ^ j
pow_bytes zero = refl
pow_bytes (suc j) =
    let e : 8 * suc j ≡ 8 * j + 8 = omega arith in
    ap (λ (k : ℕ). 2 ^ k) e ∙ pow-add 2 (8 * j) 8 ∙ ap (λ (x : ℕ). x * 256) (pow_bytes j) ∙ sym (pow-suc 256 j)

-- the bytes of a number's tally, shifted: its digits, and noughts
pub digits_first : (n figures : ℕ) → figures ≡ length (decimal n) → figures ≤ 8 → bytes_of 8 (word_of 8 n * 2 ^ (64 - 8 * figures) % 2 ^ 64) ≡ decimal n ++ noughts (8 - figures)
digits_first n figures f h =
    let j : ℕ = 8 - figures in
    let e : 8 ≡ figures + j = omega arith in
    let s : 64 - 8 * figures ≡ 8 * j = omega arith in
    let d : bytes_of figures (word_of 8 n) ≡ decimal n = ap (λ (k : ℕ). bytes_of figures (word_of k n)) e ∙ digit_bytes figures j n ∙ ap (λ (k : ℕ). last_digits k n) f ∙ sym (decimal_last n) in
    ap (λ (x : ℕ). bytes_of 8 (word_of 8 n * x % 256 ^ 8)) (ap (λ (k : ℕ). 2 ^ k) s ∙ pow_bytes j)
    ∙ ap (λ (k : ℕ). bytes_of k (word_of 8 n * 256 ^ j % 256 ^ k)) e
    ∙ shifted j figures (word_of 8 n)
    ∙ ap (λ (bs : List ℕ). bs ++ noughts j) d

-- a line whose first number's digits are put with noughts behind them: a blank and the two numbers that follow cover
-- these
module _ (out : List ℕ) (at n a v : ℕ) (h : at + 63 ≤ length out) (figures : ℕ) (f : figures ≡ length (decimal n)) (least : 3 ≤ figures) (most : figures ≤ 8) where
  abbrev over : List ℕ
  over = 32 ∷ line (a ∷ v ∷ [])

  over_fits : (4 ≤ length (line (a ∷ v ∷ []))) × (length (line (a ∷ v ∷ [])) ≤ 42)
  over_fits = (omega (arith, line_least (a ∷ v ∷ [])), omega (arith, length_line (a ∷ v ∷ [])))

  -- the digits and the noughts, then all that follows the number
  covered : put (put out at (bytes_of 8 (word_of 8 n * 2 ^ (64 - 8 * figures) % 2 ^ 64))) (at + figures) over ≡ put out at (line (n ∷ a ∷ v ∷ []))
  unfolding line
  covered =
      let d : List ℕ = decimal n in
      let z : List ℕ = noughts (8 - figures) in
      let l : length z ≡ 8 - figures = length_noughts (8 - figures) in
      ap (λ (bs : List ℕ). put (put out at bs) (at + figures) over) (digits_first n figures f most)
      ∙ ap (λ (o : List ℕ). put o (at + figures) over) (sym (put_more out at d z (omega (arith, f, l))))
      ∙ ap (λ (k : ℕ). put (put (put out at d) (at + length d) z) k over) (ap (λ (k : ℕ). at + k) f)
      ∙ put_again (put out at d) (at + length d) z over (omega (arith, f, l, over_fits.0)) (rw (length_put out at d (omega (arith, f))) (omega (arith, f, over_fits.1)))
      ∙ put_more out at d over (omega (arith, f, over_fits.1))

  pub entry_put : (out₁ out₂ out₃ : List ℕ) (blank r : ℕ)
      → out₁ ≡ put out at (bytes_of 8 (word_of 8 n * 2 ^ (64 - 8 * figures) % 2 ^ 64))
      → blank ≡ after out₁ (at + figures) (32 ∷ []) → out₂ ≡ put out₁ (at + figures) (32 ∷ [])
      → r ≡ after_in 42 out₂ blank (line (a ∷ v ∷ [])) → out₃ ≡ put_in 42 out₂ blank (line (a ∷ v ∷ []))
      → (r ≡ after_in 63 out at (line (n ∷ a ∷ v ∷ []))) × (out₃ ≡ put_in 63 out at (line (n ∷ a ∷ v ∷ [])))
  unfolding line
  entry_put out₁ out₂ out₃ blank r p b q s t =
      let w : List ℕ = line (a ∷ v ∷ []) in
      let one : List ℕ = 32 ∷ [] in
      let x : ℕ = word_of 8 n * 2 ^ (64 - 8 * figures) % 2 ^ 64 in
      let l₁ : length out₁ ≡ length out = ap length p ∙ length_put out at (bytes_of 8 x) (omega (arith, length_bytes 8 x)) in
      let h₁ : at + figures + length one ≤ length out₁ = omega arith in
      let l₂ : length out₂ ≡ length out = ap length q ∙ length_put out₁ (at + figures) one h₁ ∙ l₁ in
      let b₁ : blank ≡ at + figures + 1 = b ∙ after_fits out₁ (at + figures) one h₁ in
      let t₁ : leb (blank + 42) (length out₂) ≡ true = le-leb (blank + 42) (length out₂) (omega arith) in
      let t₂ : leb (at + 63) (length out) ≡ true = le-leb (at + 63) (length out) h in
      let n₁ : length (decimal n ++ over) ≡ length (decimal n) + length over = length-append (decimal n) over in
      let m : put out₂ blank w ≡ put out at (decimal n ++ over) =
      ap₂ (λ (o : List ℕ) (k : ℕ). put o k w) q b₁
      ∙ put_more out₁ (at + figures) one w (omega (arith, over_fits.1))
      ∙ ap (λ (o : List ℕ). put o (at + figures) over) p ∙ covered in
      (s ∙ rw (t₁, t₂) (omega arith), t ∙ rw (t₁, t₂) m)
