-- T4 for the V260 (document 01, "Counting"): "A run of k channels with an unjoined first one, from all zero and with
-- no clear since, holds the pulses admitted to its first channel modulo 2^(24k)", also round past channel 15. "With
-- all sixteen joined nothing counts." Over every list of calls, stated of the definitions that the contracts are
-- equations with. Assumes nothing.
use Prim.Native.Nat.{ℕ, suc, ◌*◌, ◌%◌, ◌^◌, ◌<◌}
use mathlib.Core.Path.{◌≡◌, refl, sym, ap, subst, ◌∙◌}
use mathlib.Core.Bool.{Bool, true, false, not, false≢true}
use mathlib.Core.List.{List, [], ◌∷◌}
use native.Mathlib.Omega.{arith}
use borrow.Author.Tests.{eqb-true, ltb-true, not-true}
use lib.Dec.{eqb, ltb}
use lib.ListN.{length, replicate}
use Rattle.count.specs.Counter.{bit, iterate}
use Rattle.count.proofs.Bits.{no_bit}
use Rattle.bus.specs.declared.Access.{Access}
use Rattle.bus.specs.declared.Refusal.{Refusal}
use Rattle.bus.specs.declared.Refusal.TheVariants.{NoMeaning, NoChannel, Malformed}
use Rattle.bus.specs.declared.interrupter.Interrupter.{Interrupter}
use Rattle.bus.specs.declared.table.Reached.{Reached}
use Rattle.std.specs.Prelude.{Result, Ok, Err}
use Rattle.bus.specs.Table.{look_up, by_table}
use Rattle.bus.proofs.Places.{left_of, right_of}
use Rattle.scaler.specs.declared.Register.{Register}
use Rattle.scaler.specs.declared.Call.{Call}
use Rattle.scaler.specs.declared.Call.TheVariants as call
use Rattle.scaler.specs.Orders.{inhibited}
use Rattle.scaler.specs.Admitted.{reaches, clears, no_clear, admitted_to}
use Rattle.scaler.specs.Registers.{is_clear}
use Rattle.scaler.specs.Held.{counts_of, held}
use Rattle.scaler.proofs.Fair.{Quiet, Does, increases, clearing, stays, Deed, idle, scale_holds}
use Rattle.scaler.proofs.Runs.{or_true, length_path}
use Rattle.v260.specs.declared.Switches.{Switches}
use Rattle.v260.specs.declared.V260.{V260}
use Rattle.scaler.specs.declared.module.Outcome.{Outcome}
use Rattle.scaler.specs.Outcomes.{refused, done, unless}
use Rattle.v260.specs.Outcomes.{is_formed}
use Rattle.v260.specs.Counting.{after, is_joined}
use Rattle.v260.specs.Registers.{registers}
use Rattle.v260.specs.Joined.{Joined, channels, AllJoined}
use Rattle.scaler.specs.Calls.{pulse, tested, performed, step_of, called_of}
use Rattle.v260.specs.Module.{v260}
use Rattle.v260.proofs.Stepping.{inside, row_does, Fit, scale, own}

-- T4: a joined scale of k + 1 channels from channel f on, all zero, and any calls of which none clears
pub v260_scale_holds : (f k : ℕ) (calls : List Call) (s : V260) (i : Interrupter)
    → Joined s.switches f k
    → length s.scales.counts ≡ 16
    → counts_of (channels f k) s.scales.counts ≡ replicate (suc k) 0
    → no_clear registers calls ≡ true
    → held 24 (channels f k) (called_of v260 calls (done 0 s i)).state.scales.counts ≡ admitted_to v260 f calls (done 0 s i) % 2 ^ (24 * suc k)
v260_scale_holds f k calls s i j l z e =
    let n = length_path after (suc k) f in
    scale_holds inside 24 (channels f k) f (Fit f k) (own f k) (scale f k) calls (done 0 s i) (record { joined = j; size = l }) (rw n z) e ∙ rw n

-- ---- all sixteen joined
module _ (s : V260) (i : Interrupter) (j : AllJoined s) where
  quiet_unless : (why : Refusal) (b : Bool) (o : Outcome V260) → (b ≡ true → Quiet inside s o) → Quiet inside s (unless b why s i o)
  quiet_unless why true o h = h refl
  quiet_unless why false o h = (refl, refl)

  -- TEST is refused
  quiet_tested : Quiet inside s (tested v260 s i)
  quiet_tested = quiet_unless NoMeaning (eqb s.switches.joined 0) _ (λ e. absurd (none (eqb-true s.switches.joined 0 e)))
    where
      none : s.switches.joined ≡ 0 → ⊥
      none e =
          let b : bit 0 0 ≡ 1 = rw e at (eqb-true (bit s.switches.joined 0) 1 (j 0 (omega arith))) in
          omega (arith, sym (no_bit 0 0 0 (omega arith) (omega arith)) ∙ b)

  -- no input does anything
  quiet_pulses : (x n : ℕ) → x < 16 → Quiet inside s (iterate n (pulse v260 x) (done 0 s i))
  quiet_pulses x n h =
      subst (Quiet inside s) (sym (idle inside x n (done 0 s i) (or_true (inhibited s.scales) (is_joined s.switches x) (j x h)))) (refl, refl)

  quiet_does : {b c : Bool} {o : Outcome V260} → Does inside s i b c o → c ≡ false → Quiet inside s o
  quiet_does increases e = quiet_tested
  quiet_does (clearing o d) e = absurd (false≢true (sym e))
  quiet_does (stays v o d q) e = q

  quiet_reached : (to : Result (Reached Register) Refusal) (a : Access) → Deed inside s i a to → reaches is_clear to ≡ false → Quiet inside s (by_table (λ why. refused why s i) (λ register place. performed v260 register place s i a) to)
  quiet_reached (Err why) a d e = (refl, refl)
  quiet_reached (Ok to) a d e = quiet_does d e

  quiet_step : (c : Call) → clears registers c ≡ false → Quiet inside s (step_of v260 s i c)
  quiet_step (call.Pulses x n) e =
      quiet_unless Malformed (is_formed s i) _ (λ _. quiet_unless NoChannel (ltb x 16) _ (λ h. quiet_pulses x n (ltb-true x 16 h)))
  quiet_step (call.VetoLine on) e = quiet_unless Malformed (is_formed s i) _ (λ _. (refl, refl))
  quiet_step call.Test e = quiet_unless Malformed (is_formed s i) _ (λ _. quiet_tested)
  quiet_step call.ClearLine e = absurd (false≢true (sym e))
  quiet_step call.Trigger e = quiet_unless Malformed (is_formed s i) _ (λ _. (refl, refl))
  quiet_step (call.Access a) e = quiet_unless Malformed (is_formed s i) _ (λ _. quiet_reached (look_up registers a) a (row_does s i a) e)
  quiet_step call.ManClr e = absurd (false≢true (sym e))

-- T4: nothing counts, whatever is called that does not clear
pub nothing_counts : (calls : List Call) (o : Outcome V260) → AllJoined o.state → no_clear registers calls ≡ true
    → (called_of v260 calls o).state.scales.counts ≡ o.state.scales.counts
nothing_counts [] o j e = refl
nothing_counts (c ∷ cs) o j e =
    let q = quiet_step o.state o.interrupter j c (not-true (clears registers c) (left_of (not (clears registers c)) (no_clear registers cs) e)) in
    let t = step_of v260 o.state o.interrupter c in
    nothing_counts cs t (λ x h. ap (λ (w : Switches). is_joined w x) q.0 ∙ j x h) (right_of (not (clears registers c)) (no_clear registers cs) e) ∙ q.1
