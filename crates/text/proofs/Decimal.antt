-- The digits of a number, written one after the other from the end, and how many there are. Assumes nothing.
use Prim.Native.Nat.{ℕ, zero, suc, ◌+◌, ◌-◌, ◌*◌, ◌/◌, ◌%◌, ◌^◌, ◌≤◌, ◌<◌}
use mathlib.Core.Path.{◌≡◌, refl, sym, ap, ◌∙◌}
use mathlib.Core.Bool.{Bool, true, false, cond}
use mathlib.Core.List.{List, [], ◌∷◌, ◌++◌, append_assoc}
use native.Mathlib.Omega.{arith}
use native.Mathlib.Nat.{pow-suc, one-le-pow}
use native.Mathlib.Numerals.{add-one}
use borrow.Author.Tests.{lt-ltb, le-ltb, ltb-true, ltb-false}
use lib.Dec.{ltb}
use lib.ListN.{length, take, drop, set, length-append, length-set, take-append-drop}
use lib.Seq.{drop-cons, take-set-le, drop-set-lt, get_or-set_same, append_snoc}
use Rattle.text.specs.Text.{put, digits_of, decimal}
use Rattle.text.specs.Line.{line}
use Rattle.text.proofs.Putting.{put_fits}

-- the last k digits of n, with noughts before them where it has fewer
unfoldable pub last_digits : ℕ → ℕ → List ℕ
last_digits zero n = []
last_digits (suc k) n = last_digits k (n / 10) ++ ((48 + n % 10) ∷ [])

last_or_more : (n : ℕ) (ds : List ℕ) → ds ≡ last_digits (length ds) (n / 10) → (b : Bool) → ltb n 10 ≡ b
    → cond b ((48 + n) ∷ []) (ds ++ ((48 + n % 10) ∷ [])) ≡ last_digits (length (cond b ((48 + n) ∷ []) (ds ++ ((48 + n % 10) ∷ [])))) n
unfolding last_digits
last_or_more n ds h true e =
    let t : n < 10 = ltb-true n 10 e in
    let r : n ≡ n % 10 = omega arith in
    ap (λ (d : ℕ). (48 + d) ∷ []) r
last_or_more n ds h false e =
    let l : length (ds ++ ((48 + n % 10) ∷ [])) ≡ suc (length ds) = length-append ds ((48 + n % 10) ∷ []) ∙ add-one (length ds) in
    rw l (ap (λ (l : List ℕ). l ++ ((48 + n % 10) ∷ [])) h)

-- a number's digits are its last ones, as many as there are
digits_last : (k n : ℕ) → digits_of k n ≡ last_digits (length (digits_of k n)) n
unfolding digits_of last_digits
digits_last zero n = refl
digits_last (suc k) n = last_or_more n (digits_of k (n / 10)) (digits_last k (n / 10)) (ltb n 10) refl

pub decimal_last : (n : ℕ) → decimal n ≡ last_digits (length (decimal n)) n
unfolding decimal
decimal_last n = digits_last 20 n

-- a number below 10 is its one digit
pub decimal_one : (n : ℕ) → n < 10 → decimal n ≡ (48 + n) ∷ []
unfolding decimal digits_of
decimal_one n h = rw (lt-ltb n 10 h)

-- out from j on, after v is stored at j
stored : (out : List ℕ) (j v : ℕ) → j < length out → drop j (set out j v) ≡ v ∷ drop (suc j) out
stored out j v h =
    drop-cons (set out j v) j 0 (rw length-set h)
    ∙ rw (get_or-set_same out j v 0 h, drop-set-lt (suc j) out j v (omega arith))

-- out with the last digits of n from `at` up to i
abbrev pub filled : List ℕ → ℕ → ℕ → ℕ → List ℕ
filled out at i n = take at out ++ (last_digits (i - at) n ++ drop i out)

-- all of them are to come
pub filled_start : (out : List ℕ) (at i n : ℕ) → i ≡ at + length (decimal n) → i ≤ length out → filled out at i n ≡ put out at (decimal n)
filled_start out at i n e h =
    let m : at + length (decimal n) - at ≡ length (decimal n) = omega arith in
    rw (e, m, ← decimal_last n) (sym (append_assoc (take at out) (decimal n) (drop (at + length (decimal n)) out)) ∙ sym (put_fits out at (decimal n) (omega arith)))

-- the last of them is stored, and the others are those of the rest
pub filled_turn : (out : List ℕ) (at i n : ℕ) → at < i → i ≤ length out
    → filled (set out (i - 1) (48 + n % 10)) at (i - 1) (n / 10) ≡ filled out at i n
unfolding last_digits
filled_turn out at i n h l =
    let j : ℕ = i - 1 in
    let v : ℕ = 48 + n % 10 in
    let e : i ≡ suc j = omega arith in
    let d : i - at ≡ suc (j - at) = omega arith in
    rw (take-set-le at out j v (omega arith), stored out j v (omega arith), d, append_snoc) (ap (λ (k : ℕ). take at out ++ (last_digits (j - at) (n / 10) ++ v ∷ drop k out)) (sym e))

-- none of them is left
pub filled_whole : (out : List ℕ) (at i n : ℕ) → i ≡ at → filled out at i n ≡ out
unfolding last_digits
filled_whole out at i n e = let z : at - at ≡ 0 = omega arith in rw (e, z) (take-append-drop at out)

-- a number below 10 ^ (j + 1), and from 10 ^ j on unless j is 0, has j + 1 digits
digits_count : (k j n : ℕ) → j ≤ k → 10 ^ j ≤ n + (1 - j) → n < 10 ^ suc j → length (digits_of (suc k) n) ≡ suc j
unfolding digits_of
digits_count k zero n h l u = rw (lt-ltb n 10 (omega arith))
digits_count zero (suc j) n h l u = absurd (omega arith)
digits_count (suc k) (suc j) n h l u =
    let p : 10 ^ suc j ≡ 10 ^ j * 10 = pow-suc 10 j in
    let q : 10 ^ suc (suc j) ≡ 10 ^ suc j * 10 = pow-suc 10 (suc j) in
    let o : 1 ≤ 10 ^ j = one-le-pow j 10 (omega arith) in
    rw (le-ltb n 10 (omega arith), length-append, digits_count k j (n / 10) (omega arith) (omega arith) (omega arith), add-one)

-- a number from 10 ^ k on, or any where k is 0, and below ten times that has a digit more than k
pub power_digits : (k n : ℕ) → k < 20 → 10 ^ k ≤ n + (1 - k) → n < 10 * 10 ^ k → k + 1 ≡ length (decimal n)
unfolding decimal
power_digits k n h l u = add-one k ∙ sym (digits_count 19 k n (omega arith) l (omega (arith, pow-suc 10 k)))

-- the next number, where its last digit is not 0, has as many digits
next_count : (k n m : ℕ) (b : Bool) → ltb n 10 ≡ b → ltb m 10 ≡ b → m / 10 ≡ n / 10 → length (digits_of (suc k) m) ≡ length (digits_of (suc k) n)
unfolding digits_of
next_count k n m true e f q = rw (e, f)
next_count k n m false e f q = rw (e, f, q) (length-append (digits_of k (n / 10)) ((48 + m % 10) ∷ []) ∙ sym (length-append (digits_of k (n / 10)) ((48 + n % 10) ∷ [])))

count_next : (k n : ℕ) → ((n + 1) % 10 ≡ 0 → ⊥) → length (digits_of (suc k) (n + 1)) ≡ length (digits_of (suc k) n)
count_next k n h =
    let q : (n + 1) / 10 ≡ n / 10 = omega (arith, h) in
    go (ltb n 10) refl q
  where
    go : (b : Bool) → ltb n 10 ≡ b → (n + 1) / 10 ≡ n / 10 → length (digits_of (suc k) (n + 1)) ≡ length (digits_of (suc k) n)
    go true e q = next_count k n (n + 1) true e (lt-ltb (n + 1) 10 (omega (arith, ltb-true n 10 e))) q
    go false e q = next_count k n (n + 1) false e (le-ltb (n + 1) 10 (omega (arith, ltb-false n 10 e))) q

pub decimal_next : (n : ℕ) → ((n + 1) % 10 ≡ 0 → ⊥) → length (decimal (n + 1)) ≡ length (decimal n)
unfolding decimal
decimal_next n h = count_next 19 n h

-- the same of a number of two digits or more whose last one goes round, where the one before it does not
tens_count : (k n : ℕ) → 10 ≤ n → length (digits_of (suc k) n) ≡ length (digits_of k (n / 10)) + 1
unfolding digits_of
tens_count k n h = rw (le-ltb n 10 h) (length-append (digits_of k (n / 10)) ((48 + n % 10) ∷ []))

pub decimal_round : (n : ℕ) → 10 ≤ n → n % 10 ≡ 9 → ((n / 10 + 1) % 10 ≡ 0 → ⊥) → length (decimal (n + 1)) ≡ length (decimal n)
unfolding decimal
decimal_round n h e t =
    let q : (n + 1) / 10 ≡ n / 10 + 1 = omega arith in
    tens_count 19 (n + 1) (omega arith) ∙ ap (λ (x : ℕ). length (digits_of 19 x) + 1) q ∙ ap (λ (x : ℕ). x + 1) (count_next 18 (n / 10) t) ∙ sym (tens_count 19 n h)

-- a number has a digit at least, and a line two bytes a number
pub decimal_some : (n : ℕ) → 1 ≤ length (decimal n)
unfolding decimal digits_of
decimal_some n = go (ltb n 10)
  where
    go : (b : Bool) → 1 ≤ length (cond b ((48 + n) ∷ []) (digits_of 19 (n / 10) ++ ((48 + n % 10) ∷ [])))
    go true = omega arith
    go false = rw length-append (omega arith)

pub line_least : (ns : List ℕ) → 2 * length ns ≤ length (line ns)
unfolding line
line_least [] = omega arith
line_least (n ∷ ns) = rw length-append (omega (arith, decimal_some n, line_least ns))

length_either : (b : Bool) (xs ys : List ℕ) (m : ℕ) → length xs ≤ m → length ys ≤ m → length (cond b xs ys) ≤ m
length_either true xs ys m h k = h
length_either false xs ys m h k = k

length_digits : (k n : ℕ) → length (digits_of k n) ≤ k
unfolding digits_of
length_digits zero n = omega arith
length_digits (suc k) n =
    length_either (ltb n 10) ((48 + n) ∷ []) (digits_of k (n / 10) ++ ((48 + n % 10) ∷ [])) (suc k) (omega arith)
    (rw length-append (omega (arith, length_digits k (n / 10))))

pub length_decimal : (n : ℕ) → length (decimal n) ≤ 20
unfolding decimal
length_decimal n = length_digits 20 n

pub length_line : (ns : List ℕ) → length (line ns) ≤ 21 * length ns
unfolding line
length_line [] = omega arith
length_line (n ∷ ns) = rw length-append (omega (arith, length_decimal n, length_line ns))
