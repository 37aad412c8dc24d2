-- One turn of the reader's loops and of the writer's test of the counts: one clause of a definition. Assumes nothing.
use mathlib.Core.Path.{◌≡◌, sym, ◌∙◌}
use mathlib.Core.Bool.{Bool, true, false}
use mathlib.Core.List.{List, [], ◌∷◌}
use mathlib.Core.Logic.{inl, inr}
use Prim.Native.Nat.{ℕ, ◌+◌, ◌/◌, ◌%◌, ◌≤◌, ◌<◌}
use native.Mathlib.Numerals.{add-one}
use native.Mathlib.Omega.{arith}
use lib.ListN.{length, get_or, set, drop, drop_of_length-le}
use lib.Seq.{drop-cons}
use Rattle.std.specs.Prelude.{Result, Ok, Err}
use Rattle.layout.specs.declared.Refusal.{Refusal}
use Rattle.layout.specs.Numbers.{passed}
use Rattle.layout.specs.Reader.{datum_answer, data_answer, count_in, counts_read}
use Rattle.layout.specs.Writer.{count_fits, counts_fit}
use Rattle.layout.proofs.Answers.{datum_onward}
use Rattle.layout.proofs.Turns.{Left, Ended, left_turn, left_room, left_over}

-- ---- the answer of the data: why a datum is refused, or on to the next
module _ {whole : Result (Unit {0}) Refusal} {ks ws : List ℕ} (e : Left (λ js us. data_answer js us passed) whole ks ws) where
  module _ {k w : ℕ} {others rest : List ℕ} (p : (ks ≡ k ∷ others) × (ws ≡ w ∷ rest)) {r : Result (Unit {0}) Refusal} (a : r ≡ datum_answer k w passed) where
    pub data_next : {u : Unit {0}} → r ≡ Ok u → Left (λ js us. data_answer js us passed) whole others rest
    unfolding data_answer
    data_next d = record { same = sym (rw (sym a ∙ d) at (datum_onward k w (data_answer others rest passed))) ∙ left_turn e p; room = left_room e p }

    pub data_stops : {why : Refusal} → r ≡ Err why → Err why ≡ whole
    unfolding data_answer
    data_stops d = sym (rw (sym a ∙ d) at (datum_onward k w (data_answer others rest passed))) ∙ left_turn e p

  pub data_over : {S T : Type 0} {P : S → Type 0} {Q : T → Type 0} → Ended P Q ks ws → passed ≡ whole
  unfolding data_answer
  data_over z = left_over e z

-- ---- the counts: one more at its channel
module _ (short : Bool) (counts ws : List ℕ) {whole ks : List ℕ} (e : counts_read short ks ws counts ≡ whole) where
  pub counts_next : {k w : ℕ} {others rest : List ℕ} → (ks ≡ k ∷ others) × (ws ≡ w ∷ rest) → counts_read short others rest (set counts k (count_in short w)) ≡ whole
  unfolding counts_read
  counts_next p = rw (p.0, p.1) at e

  pub counts_over : {S T : Type 0} {P : S → Type 0} {Q : T → Type 0} → Ended P Q ks ws → counts ≡ whole
  unfolding counts_read
  counts_over (inl x) = rw x.1.0 at e
  counts_over (inr y) = go ks ws y.1.0 e
    where
      go : (js us : List ℕ) → length us ≡ 0 → counts_read short js us counts ≡ whole → counts ≡ whole
      go [] us z h = h
      go (j ∷ js) [] z h = h
      go (j ∷ js) (u ∷ us) z h = absurd (omega arith)

-- ---- whether the counts from k on fit: this one, and those behind it
module _ (short : Bool) (mask : ℕ) (cs : List ℕ) (k : ℕ) where
  module _ (h : k < length cs) where
    pub fit_fails : count_fits short (mask % 2) (get_or cs k 0) ≡ false → counts_fit short mask (drop k cs) ≡ false
    unfolding counts_fit
    fit_fails f = rw (drop-cons cs k 0 h, f)

    pub fit_goes_on : count_fits short (mask % 2) (get_or cs k 0) ≡ true → counts_fit short mask (drop k cs) ≡ counts_fit short (mask / 2) (drop (k + 1) cs)
    unfolding counts_fit
    fit_goes_on t = rw (drop-cons cs k 0 h, add-one, t)

  pub fit_ends : length cs ≤ k → counts_fit short mask (drop k cs) ≡ true
  unfolding counts_fit
  fit_ends h = rw (drop_of_length-le cs {i = k} h)
