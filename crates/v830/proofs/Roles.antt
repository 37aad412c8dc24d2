-- What a call is by its role: a write of Control that is done restarts the account, and a trigger is a trigger. Deed
-- by deed; no other role is meant. Assumes nothing.
use Prim.Native.Nat.{ℕ}
use mathlib.Core.Path.{◌≡◌, refl, ap, ◌∙◌}
use mathlib.Core.Bool.{Bool, true, false, false≢true}
use Rattle.std.specs.Prelude.{is_some}
use Rattle.bus.specs.declared.Refusal.TheVariants.{NoMeaning, Malformed, WrongMemory}
use Rattle.bus.specs.Answers.{is_done}
use Rattle.bus.proofs.Choices.{by_test}
use Rattle.meb.specs.Ring.{Memory}
use Rattle.v830.specs.declared.Call.{Call}
use Rattle.v830.specs.declared.Call.TheVariants as call
use Rattle.v830.specs.declared.deeds.Deed.{Deed}
use Rattle.v830.specs.declared.deeds.Deed.TheVariants.{Refuse, Pulses, Veto, Test, Clear, Trigger, HandOut, ReadCounter, ReadEnable, WriteEnable, ReadControl, WriteControl, SetBits, ClearBits, Reset, ReadTriggers, ReadEvents}
use Rattle.v830.specs.declared.deeds.Source.{Source}
use Rattle.v830.specs.declared.deeds.Source.TheVariants.{Line}
use Rattle.v830.specs.declared.Outcome.{Outcome}
use Rattle.v830.specs.declared.V830.{V830}
use Rattle.v830.specs.State.{mode, zeros, formed}
use Rattle.v830.specs.Outcomes.{Step, kept, refused, done}
use Rattle.v830.specs.Counting.{restarted}
use Rattle.v830.specs.Trigger.{triggered}
use Rattle.v830.specs.Registers.{controlled, as_written, with_bits, without_bits}
use Rattle.v830.specs.Deeds.{deed_of, done_by}
use Rattle.v830.specs.Calls.{is_lent_right, has_length, gated, step_of}
use Rattle.v830.specs.Account.{Role, reads_memory, triggers_by, writes_control, clears_all, pulses_on, tests_all, no_part, role_of, role_in}

-- no role is another one
abbrev is_write : Role → Bool
is_write reads_memory = false
is_write (triggers_by by) = false
is_write writes_control = true
is_write clears_all = false
is_write (pulses_on k n) = false
is_write tests_all = false
is_write no_part = false

abbrev is_trigger : Role → Bool
is_trigger reads_memory = false
is_trigger (triggers_by by) = true
is_trigger writes_control = false
is_trigger clears_all = false
is_trigger (pulses_on k n) = false
is_trigger tests_all = false
is_trigger no_part = false

-- who triggers, by the role; of another role it is not asked
abbrev triggerer : Role → Source
triggerer reads_memory = Line
triggerer (triggers_by by) = by
triggerer writes_control = Line
triggerer clears_all = Line
triggerer (pulses_on k n) = Line
triggerer tests_all = Line
triggerer no_part = Line

-- what a write of Control leaves that is done
pub record Restarted (s t : V830) : Type 0 where
  pub counts : t.counts ≡ zeros
  pub enable : t.enable ≡ s.enable
  pub stored : t.store.stored.0 ≡ 0

module _ (s : V830) (memory : Memory) where
  -- a call that is done has passed the gate
  pub done_formed : (c : Call) → is_done (step_of s memory c).outcome.answer ≡ true → formed s ≡ true
  done_formed c d = go (formed s) refl
    where
      go : (b : Bool) → formed s ≡ b → formed s ≡ true
      go true e = e
      go false e = absurd (false≢true (rw e at d))

  -- a step that, if it is done, restarts the account
  abbrev Restarts : Step → Type 0
  Restarts r = is_done r.outcome.answer ≡ true → Restarted s r.outcome.state

  control_restarts : (result : ℕ) → Restarts (kept memory (controlled result s))
  control_restarts result =
      by_test (λ (o : Outcome). Restarts (kept memory o)) (is_some (mode result)) (done 0 (restarted result s)) (refused NoMeaning s)
      (λ m e. record { counts = refl; enable = refl; stored = refl })
      (λ m e. absurd (false≢true e))

  deed_restarts : (d : Deed) → is_write (role_of d) ≡ true → Restarts (done_by d s memory)
  deed_restarts (Refuse why) w = absurd (false≢true w)
  deed_restarts (Pulses k n) w = absurd (false≢true w)
  deed_restarts (Veto on) w = absurd (false≢true w)
  deed_restarts Test w = absurd (false≢true w)
  deed_restarts (Clear by) w = absurd (false≢true w)
  deed_restarts (Trigger by) w = absurd (false≢true w)
  deed_restarts HandOut w = absurd (false≢true w)
  deed_restarts (ReadCounter k) w = absurd (false≢true w)
  deed_restarts ReadEnable w = absurd (false≢true w)
  deed_restarts (WriteEnable word) w = absurd (false≢true w)
  deed_restarts ReadControl w = absurd (false≢true w)
  deed_restarts (WriteControl word) w = control_restarts (as_written word)
  deed_restarts (SetBits word) w = control_restarts (with_bits s word)
  deed_restarts (ClearBits word) w = control_restarts (without_bits s word)
  deed_restarts Reset w = absurd (false≢true w)
  deed_restarts ReadTriggers w = absurd (false≢true w)
  deed_restarts ReadEvents w = absurd (false≢true w)

  pub write_restarts : (c : Call) → role_in c ≡ writes_control → Restarts (step_of s memory c)
  write_restarts c w =
      by_test Restarts (formed s) _ (kept memory (refused Malformed s))
      (λ g. by_test Restarts (is_lent_right s memory c) _ (kept memory (refused WrongMemory s))
      (λ l. deed_restarts (deed_of c) (ap is_write w))
      (λ l e. absurd (false≢true e)))
      (λ g e. absurd (false≢true e))

  deed_triggers : (d : Deed) → is_trigger (role_of d) ≡ true → done_by d s memory ≡ triggered (triggerer (role_of d)) s memory
  deed_triggers (Refuse why) w = absurd (false≢true w)
  deed_triggers (Pulses k n) w = absurd (false≢true w)
  deed_triggers (Veto on) w = absurd (false≢true w)
  deed_triggers Test w = absurd (false≢true w)
  deed_triggers (Clear by) w = absurd (false≢true w)
  deed_triggers (Trigger by) w = refl
  deed_triggers HandOut w = absurd (false≢true w)
  deed_triggers (ReadCounter k) w = absurd (false≢true w)
  deed_triggers ReadEnable w = absurd (false≢true w)
  deed_triggers (WriteEnable word) w = absurd (false≢true w)
  deed_triggers ReadControl w = absurd (false≢true w)
  deed_triggers (WriteControl word) w = absurd (false≢true w)
  deed_triggers (SetBits word) w = absurd (false≢true w)
  deed_triggers (ClearBits word) w = absurd (false≢true w)
  deed_triggers Reset w = absurd (false≢true w)
  deed_triggers ReadTriggers w = absurd (false≢true w)
  deed_triggers ReadEvents w = absurd (false≢true w)

  -- only calls that are lent the memory trigger
  trigger_lent : (c : Call) → is_trigger (role_in c) ≡ true → is_lent_right s memory c ≡ has_length s memory
  trigger_lent (call.Pulses k n) w = absurd (false≢true w)
  trigger_lent (call.VetoLine on) w = absurd (false≢true w)
  trigger_lent call.Test w = absurd (false≢true w)
  trigger_lent call.ClearLine w = absurd (false≢true w)
  trigger_lent call.TriggerLine w = refl
  trigger_lent (call.Access a) w = refl
  trigger_lent call.ManClr w = absurd (false≢true w)

  -- a trigger by line or register is 12, 10, or what a trigger does
  pub trigger_is : (c : Call) (by : Source) → role_in c ≡ triggers_by by → step_of s memory c ≡ gated (has_length s memory) s memory (triggered by s memory)
  trigger_is c by e =
      let t : is_trigger (role_in c) ≡ true = ap is_trigger e in
      let d : done_by (deed_of c) s memory ≡ triggered by s memory = deed_triggers (deed_of c) t ∙ ap (λ (r : Role). triggered (triggerer r) s memory) e in
      ap (λ (b : Bool). gated b s memory (done_by (deed_of c) s memory)) (trigger_lent c t) ∙ ap (gated (has_length s memory) s memory) d
