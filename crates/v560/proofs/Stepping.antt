-- The V560 as a module of scales: what every call that does not clear does to a joined section. Assumes nothing.
use Prim.Native.Nat.{ℕ, ◌+◌, ◌*◌, ◌-◌, ◌/◌, ◌%◌, ◌<◌}
use mathlib.Core.Path.{◌≡◌, refl, sym, ap, subst, ◌∙◌}
use mathlib.Core.Bool.{Bool, true, false, false≢true}
use mathlib.Core.List.{List, [], ◌∷◌}
use native.Mathlib.Omega.{arith}
use borrow.Author.Tests.{eqb-true, eq-eqb, ne_eqb}
use lib.Dec.{eqb}
use lib.ListN.{length}
use Rattle.count.specs.Counter.{bit}
use Rattle.count.specs.Chain.{tick_chain}
use Rattle.count.proofs.Bits.{no_bit}
use Rattle.bus.specs.declared.Access.{Access}
use Rattle.bus.specs.declared.Refusal.TheVariants.{NoMeaning}
use Rattle.bus.specs.declared.interrupter.Interrupter.{Interrupter}
use Rattle.bus.proofs.Places.{right_of}
use Rattle.bus.specs.Table.{look_up}
use Rattle.bus.proofs.Choices.{and_false, either_way}
use Rattle.bus.proofs.Numbers.{each_row}
use Rattle.scaler.proofs.Fair.{Inside, Does, increases, clearing, stays, Deed, Scale, Fair, fair_refused, Own}
use Rattle.scaler.specs.Held.{path, counts_of}
use Rattle.scaler.proofs.Runs.{among, apart, Run, run_ticks, others_stay, length_clocked}
use Rattle.v560.specs.declared.V560.{V560}
use Rattle.scaler.specs.Outcomes.{refused}
use Rattle.v560.specs.Counting.{is_joined, section, is_low, is_high, pulsed}
use Rattle.v560.specs.Registers.{registers, request_for, level_for, vector_for}
use Rattle.scaler.specs.Calls.{tested}
use Rattle.v560.specs.Module.{v560}

-- what is inside it
abbrev pub inside : Inside v560 ℕ
inside = record { joins = λ s. s.joined; scales_scaled = λ c s. refl; ignores_scaled = λ c s x. refl }

-- a register that is read or written
register_does : (s : V560) (i : Interrupter) (word : ℕ) (b : Bool)
    → Does inside s i false false (request_for b s i word) × Does inside s i false false (level_for b s i word) × Does inside s i false false (vector_for b s i word)
register_does s i word true = (stays _ _ refl (refl, refl), stays _ _ refl (refl, refl), stays _ _ refl (refl, refl))
register_does s i word false = (stays _ _ refl (refl, refl), stays _ _ refl (refl, refl), stays _ _ refl (refl, refl))

-- what each row of its table does
pub row_does : (s : V560) (i : Interrupter) (a : Access) → Deed inside s i a (look_up registers a)
row_does s i a =
    let r = register_does s i a.«data» a.write in
    each_row (Deed inside s i a) registers a (λ why. tt)
    (λ place. stays _ _ refl (refl, refl))
    (λ place. increases)
    (λ place. stays _ _ refl (refl, refl))
    (λ place. stays _ _ refl (refl, refl))
    (λ place. clearing _ refl)
    (λ place. either_way (Does inside s i false false) (eqb a.width 32) _ _ (stays _ _ refl (refl, refl)) (stays _ _ refl (refl, refl)))
    (λ place. stays _ _ refl (refl, refl))
    (λ place. r.0)
    (λ place. stays _ _ refl (refl, refl))
    (λ place. stays _ _ refl (refl, refl))
    (λ place. stays _ _ refl (refl, refl))
    (λ place. r.1)
    (λ place. r.2)

-- a module with sixteen counts that has section n, of eight, joined
pub record Fit (n : ℕ) (s : V560) : Type 0 where
  pub among_eight : n < 8
  pub joined : eqb (bit s.joined n) 1 ≡ true
  pub size : length s.scales.counts ≡ 16

module _ (n : ℕ) where
  section_path : path (λ k. k - 1) 2 (2 * n + 1) ≡ section n
  unfolding path
  section_path = let e : 2 * n + 1 - 1 ≡ 2 * n = omega arith in rw e

  module _ (s : V560) (g : Fit n s) where
    -- a channel of the section
    joined_at : (k : ℕ) → k / 2 ≡ n → is_joined s.joined k ≡ true
    joined_at k e = rw e g.joined

    section_run : Run (is_low s.joined) (λ k. k - 1) 16 1 (2 * n + 1)
    unfolding Run path
    section_run =
        let h = g.among_eight in (
          omega arith,
          rw (joined_at (2 * n + 1) (omega arith)) (eq-eqb ((2 * n + 1) % 2) 1 (omega arith)),
          rw (ne_eqb (2 * n + 1) (2 * n + 1 - 1) (λ q. omega arith)),
          (omega arith, rw (ne_eqb ((2 * n + 1 - 1) % 2) 1 (λ q. omega arith)) (and_false (is_joined s.joined (2 * n + 1 - 1)))),
        )

    own_input : is_high s.joined (2 * n + 1) ≡ false
    own_input = rw (ne_eqb ((2 * n + 1) % 2) 0 (λ q. omega arith)) (and_false (is_joined s.joined (2 * n + 1)))

    -- a channel that is neither of the two
    outside : (x : ℕ) → (x ≡ 2 * n + 1 → ⊥) → (x ≡ 2 * n → ⊥) → among x (section n) ≡ false
    outside x p q = rw (ne_eqb x (2 * n + 1) p, ne_eqb x (2 * n) q)

    -- no channel outside clocks one of the two
    shut : (x : ℕ) → x < 16 → among x (section n) ≡ false → is_low s.joined x ≡ true → (x - 1 < 16) × (among (x - 1) (section n) ≡ false)
    shut x h o l =
        let odd : x % 2 ≡ 1 = eqb-true (x % 2) 1 (right_of (is_joined s.joined x) (eqb (x % 2) 1) l) in
        let d = apart x (2 * n + 1) (2 * n ∷ []) o in
        (omega arith, outside (x - 1) (λ q. omega arith) (λ q. d (omega arith)))

    -- another input that does something
    other : (x : ℕ) → (x ≡ 2 * n + 1 → ⊥) → is_high s.joined x ≡ false → among x (section n) ≡ false
    other x d j =
        outside x d
        (λ q. absurd (false≢true (sym j ∙ rw (q, joined_at (2 * n) (omega arith)) (eq-eqb (2 * n % 2) 0 (omega arith)))))

  pub scale : Scale inside 32 (section n) (2 * n + 1) (Fit n)
  scale =
      record {
        own_input = own_input;
        own_tick = λ s g.
            subst (λ (run : List ℕ). counts_of run (pulsed s.joined s.scales.counts (2 * n + 1)) ≡ tick_chain 32 (counts_of run s.scales.counts)) section_path
            (run_ticks 32 (is_low s.joined) (λ k. k - 1) 16 2 1 (2 * n + 1) s.scales.counts (omega arith) g.size (section_run s g));
        other_stays = λ s x g h d j. others_stay 32 (is_low s.joined) (λ k. k - 1) 16 (section n) (shut s g) 2 x s.scales.counts h (other s g x d j);
        size = λ s g. g.size;
        same_size = λ s x. length_clocked 32 (is_low s.joined) (λ k. k - 1) 16 2 x s.scales.counts;
        stays_fit = λ o l g e. record { among_eight = g.among_eight; joined = g.joined; size = e ∙ g.size };
      }

  module _ (s : V560) (i : Interrupter) (g : Fit n s) where
    -- a section is joined, so not nothing is
    not_none : s.joined ≡ 0 → ⊥
    not_none e =
        let b : bit 0 n ≡ 1 = rw e at (eqb-true (bit s.joined n) 1 g.joined) in
        omega (arith, sym (no_bit 0 n 0 (omega arith) (omega arith)) ∙ b)

    -- TEST is refused
    fair_tested : Fair inside 32 (section n) (2 * n + 1) (Fit n) 1 s (tested v560 s i)
    fair_tested =
        rw (ne_eqb s.joined 0 not_none) (fair_refused inside 32 (section n) (2 * n + 1) (Fit n) 1 s (refused NoMeaning s i) g refl refl)

  pub own : Own inside 32 (section n) (2 * n + 1) (Fit n)
  own =
      record {
        fit_stays = λ s t q e g. record { among_eight = g.among_eight; joined = ap (λ (j : ℕ). eqb (bit j n) 1) q ∙ g.joined; size = ap length e ∙ g.size };
        line_stays = λ s i on. (refl, refl);
        row_does = row_does;
        fair_tested = fair_tested;
      }
