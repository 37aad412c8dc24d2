-- The V260 as a module of scales: what every call that does not clear does to a joined scale. Assumes nothing.
use Prim.Native.Nat.{ℕ, zero, suc, ◌+◌, ◌%◌, ◌<◌}
use mathlib.Core.Path.{◌≡◌, refl, sym, ap, subst, ◌∙◌}
use mathlib.Core.Bool.{false}
use mathlib.Core.List.{map}
use native.Mathlib.Omega.{arith}
use borrow.Author.Tests.{eqb-true}
use lib.Dec.{eqb}
use lib.ListN.{length, length-map}
use Rattle.count.specs.Counter.{next, bit, iterate}
use Rattle.count.proofs.Bits.{no_bit}
use Rattle.bus.specs.declared.Access.{Access}
use Rattle.bus.specs.declared.Refusal.TheVariants.{NoMeaning}
use Rattle.bus.specs.declared.interrupter.Interrupter.{Interrupter}
use Rattle.scaler.specs.Orders.{inhibited}
use Rattle.bus.specs.Table.{look_up}
use Rattle.bus.proofs.Choices.{either_way, by_test}
use Rattle.bus.proofs.Numbers.{each_row}
use Rattle.scaler.proofs.Fair.{Inside, Does, increases, clearing, stays, Deed, Scale, Fair, fair_refused, fair_inhibited, Own}
use Rattle.scaler.specs.Held.{path}
use Rattle.scaler.proofs.Runs.{run_ticks, others_stay, length_clocked, single_ticks}
use Rattle.v260.specs.declared.Switches.{Switches}
use Rattle.v260.specs.declared.V260.{V260}
use Rattle.scaler.specs.declared.module.Outcome.{Outcome}
use Rattle.scaler.specs.Outcomes.{refused, done}
use Rattle.v260.specs.Counting.{after, is_joined}
use Rattle.v260.specs.Registers.{registers}
use Rattle.scaler.specs.Calls.{counted, tested}
use Rattle.v260.specs.Module.{v260}
use Rattle.v260.specs.Joined.{Joined, channels}
use Rattle.v260.proofs.Channels.{scale_run, scale_shut, scale_other}

-- what is inside it
abbrev pub inside : Inside v260 Switches
inside = record { joins = λ s. s.switches; scales_scaled = λ c s. refl; ignores_scaled = λ c s x. refl }

-- what each row of its table does
pub row_does : (s : V260) (i : Interrupter) (a : Access) → Deed inside s i a (look_up registers a)
row_does s i a =
    each_row (Deed inside s i a) registers a (λ why. tt)
    (λ place. stays _ _ refl (refl, refl))
    (λ place. increases)
    (λ place. stays _ _ refl (refl, refl))
    (λ place. stays _ _ refl (refl, refl))
    (λ place. clearing _ refl)
    (λ place. either_way (Does inside s i false false) (eqb a.width 32) _ _ (stays _ _ refl (refl, refl)) (stays _ _ refl (refl, refl)))
    (λ place. stays _ _ refl (refl, refl))
    (λ place. stays _ _ refl (refl, refl))
    (λ place. stays _ _ refl (refl, refl))
    (λ place. stays _ _ refl (refl, refl))
    (λ place. stays _ _ refl (refl, refl))
    (λ place. stays _ _ refl (refl, refl))

-- a module with sixteen counts that has this joined scale
pub record Fit (f k : ℕ) (s : V260) : Type 0 where
  pub joined : Joined s.switches f k
  pub size : length s.scales.counts ≡ 16

module _ (f k : ℕ) where
  pub scale : Scale inside 24 (channels f k) f (Fit f k)
  scale =
      record {
        own_input = λ s g. g.joined.own_input;
        own_tick = λ s g. run_ticks 24 (λ y. is_joined s.switches (after y)) after 16 16 k f s.scales.counts g.joined.many g.size (scale_run s.switches f k g.joined);
        other_stays = λ s x g h n j. others_stay 24 (λ y. is_joined s.switches (after y)) after 16 (channels f k) (scale_shut s.switches f k g.joined) 16 x s.scales.counts h (scale_other s.switches f k g.joined x h n j);
        size = λ s g. g.size;
        same_size = λ s x. length_clocked 24 (λ y. is_joined s.switches (after y)) after 16 16 x s.scales.counts;
        stays_fit = λ o l g e. record { joined = g.joined; size = e ∙ g.size };
      }

  module _ (s : V260) (i : Interrupter) (g : Fit f k s) where
    abbrev Fairly : ℕ → Outcome V260 → Type 0
    Fairly p o = Fair inside 24 (channels f k) f (Fit f k) p s o

    -- without a joined channel the scale is a single one
    single : (k : ℕ) → Joined s.switches f k → s.switches.joined ≡ 0 → k ≡ 0
    single zero c e = refl
    single (suc k) c e =
        let j = (f + 1) % 16 in
        let b : bit 0 j ≡ 1 = rw e at (eqb-true (bit s.switches.joined j) 1 (c.joined 1 (omega arith) (omega arith))) in
        let z : bit 0 j ≡ 0 = no_bit 0 j 0 (omega arith) (omega arith) in
        absurd (omega (arith, sym z ∙ b))

    -- TEST: nothing joined and not inhibited, each channel, and so the scale of one, counts one
    fair_each : s.switches.joined ≡ 0 → inhibited s.scales ≡ false → Fairly 1 (counted v260 (map (next 24) s.scales.counts) s i)
    unfolding path iterate
    fair_each e h =
        let z = single k g.joined e in
        let l : f < length s.scales.counts = rw g.size g.joined.first in
        let n = length-map s.scales.counts (next 24) in
        (record { joined = g.joined; size = n ∙ g.size }, rw h (record { size = n; ticks = rw z (single_ticks 24 f s.scales.counts l) }))

    fair_tested : Fairly 1 (tested v260 s i)
    fair_tested =
        by_test (Fairly 1) (eqb s.switches.joined 0) _ (refused NoMeaning s i)
        (λ e. by_test (Fairly 1) (inhibited s.scales) (done 0 s i) _
        (λ h. fair_inhibited inside 24 (channels f k) f (Fit f k) 1 s (done 0 s i) g refl h)
        (λ h. fair_each (eqb-true s.switches.joined 0 e) h))
        (λ _. fair_refused inside 24 (channels f k) f (Fit f k) 1 s (refused NoMeaning s i) g refl refl)

  pub own : Own inside 24 (channels f k) f (Fit f k)
  own =
      record {
        fit_stays = λ s t q e g. record { joined = subst (λ (w : Switches). Joined w f k) (sym q) g.joined; size = ap length e ∙ g.size };
        line_stays = λ s i on. (refl, refl);
        row_does = row_does;
        fair_tested = λ s i g. fair_tested s i g;
      }
