-- A channel of the V560 whose section is not joined, as a scale of one: what every call that does not clear does to
-- it. Assumes nothing.
use Prim.Native.Nat.{ℕ, ◌-◌, ◌/◌, ◌%◌, ◌<◌}
use mathlib.Core.Path.{◌≡◌, refl, sym, ap, ◌∙◌}
use mathlib.Core.Bool.{true, false, false≢true}
use mathlib.Core.List.{[], ◌∷◌, map}
use native.Mathlib.Omega.{arith}
use borrow.Author.Tests.{eqb-true, ne_eqb}
use lib.Dec.{eqb}
use lib.ListN.{length, length-map}
use Rattle.count.specs.Counter.{next, bit, iterate}
use Rattle.count.specs.Chain.{tick_chain}
use Rattle.bus.specs.declared.Refusal.TheVariants.{NoMeaning}
use Rattle.bus.specs.declared.interrupter.Interrupter.{Interrupter}
use Rattle.bus.proofs.Places.{left_of, right_of}
use Rattle.bus.proofs.Choices.{by_test}
use Rattle.scaler.specs.Orders.{inhibited}
use Rattle.scaler.specs.Held.{path, counts_of}
use Rattle.scaler.proofs.Fair.{Scale, Fair, fair_refused, fair_inhibited, Own}
use Rattle.scaler.proofs.Runs.{among, Run, run_ticks, others_stay, length_clocked, single_ticks}
use Rattle.scaler.specs.Calls.{counted, tested}
use Rattle.v560.specs.declared.V560.{V560}
use Rattle.v560.specs.Module.{v560}
use Rattle.scaler.specs.declared.module.Outcome.{Outcome}
use Rattle.scaler.specs.Outcomes.{refused, done}
use Rattle.v560.specs.Counting.{is_joined, is_low, unjoined, pulsed}
use Rattle.v560.proofs.Stepping.{inside, row_does}

-- a module with sixteen counts in which the section of channel k is not joined
pub record Fit (k : ℕ) (s : V560) : Type 0 where
  pub among_sixteen : k < 16
  pub single : is_joined s.joined k ≡ false
  pub size : length s.scales.counts ≡ 16

module _ (k : ℕ) where
  module _ (s : V560) (g : Fit k s) where
    single_run : Run (is_low s.joined) (λ x. x - 1) 16 0 k
    unfolding Run
    single_run = (g.among_sixteen, rw g.single)

    own_tick : counts_of (k ∷ []) (pulsed s.joined s.scales.counts k) ≡ tick_chain 32 (counts_of (k ∷ []) s.scales.counts)
    unfolding path
    own_tick = run_ticks 32 (is_low s.joined) (λ x. x - 1) 16 2 0 k s.scales.counts (omega arith) g.size single_run

    -- a channel that is not this one
    other : (x : ℕ) → (x ≡ k → ⊥) → among x (k ∷ []) ≡ false
    other x d = rw (ne_eqb x k d)

    -- no other channel clocks it: the low part of its section would be joined
    shut : (x : ℕ) → x < 16 → among x (k ∷ []) ≡ false → is_low s.joined x ≡ true → (x - 1 < 16) × (among (x - 1) (k ∷ []) ≡ false)
    shut x h o l =
        let odd : x % 2 ≡ 1 = eqb-true (x % 2) 1 (right_of (is_joined s.joined x) (eqb (x % 2) 1) l) in
        let joined = left_of (is_joined s.joined x) (eqb (x % 2) 1) l in (
          omega arith,
          other (x - 1) (λ e.
              let same : k / 2 ≡ x / 2 = omega arith in
              false≢true (sym g.single ∙ ap (λ (n : ℕ). eqb (bit s.joined n) 1) same ∙ joined)),
        )

  pub scale : Scale inside 32 (k ∷ []) k (Fit k)
  scale =
      record {
        own_input = λ s g. rw g.single;
        own_tick = own_tick;
        other_stays = λ s x g h d j. others_stay 32 (is_low s.joined) (λ x. x - 1) 16 (k ∷ []) (shut s g) 2 x s.scales.counts h (other s g x d);
        size = λ s g. g.size;
        same_size = λ s x. length_clocked 32 (is_low s.joined) (λ x. x - 1) 16 2 x s.scales.counts;
        stays_fit = λ o l g e. record { among_sixteen = g.among_sixteen; single = g.single; size = e ∙ g.size };
      }

  module _ (s : V560) (i : Interrupter) (g : Fit k s) where
    abbrev Fairly : ℕ → Outcome V560 → Type 0
    Fairly p o = Fair inside 32 (k ∷ []) k (Fit k) p s o

    -- TEST: nothing joined and not inhibited, each channel, and so this one, counts one
    fair_each : inhibited s.scales ≡ false → Fairly 1 (counted v560 (map (next 32) s.scales.counts) s i)
    unfolding iterate
    fair_each h =
        let l : k < length s.scales.counts = rw g.size g.among_sixteen in
        let n = length-map s.scales.counts (next 32) in
        (record { among_sixteen = g.among_sixteen; single = g.single; size = n ∙ g.size }, rw h (record { size = n; ticks = single_ticks 32 k s.scales.counts l }))

    fair_tested : Fairly 1 (tested v560 s i)
    fair_tested =
        by_test (Fairly 1) (unjoined s) _ (refused NoMeaning s i)
        (λ _. by_test (Fairly 1) (inhibited s.scales) (done 0 s i) _ (λ h. fair_inhibited inside 32 (k ∷ []) k (Fit k) 1 s (done 0 s i) g refl h) fair_each)
        (λ _. fair_refused inside 32 (k ∷ []) k (Fit k) 1 s (refused NoMeaning s i) g refl refl)

  pub own : Own inside 32 (k ∷ []) k (Fit k)
  own =
      record {
        fit_stays = λ s t q e g. record { among_sixteen = g.among_sixteen; single = ap (λ (j : ℕ). is_joined j k) q ∙ g.single; size = ap length e ∙ g.size };
        line_stays = λ s i on. (refl, refl);
        row_does = row_does;
        fair_tested = fair_tested;
      }
