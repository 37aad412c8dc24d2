-- T1, demand 1, for the V830: a call that is refused leaves the module and every lent word as they were, with the
-- value 0; and each number is given exactly when its line of document 01 holds and no earlier one does
-- (specs/Numbers.antt). Deed by deed. Assumes nothing.
use Prim.Native.Nat.{ℕ, ◌<◌}
use mathlib.Core.Path.{◌≡◌, refl, sym}
use mathlib.Core.Bool.{Bool, true, false, cond, ◌&&◌, ◌||◌, not, false≢true}
use mathlib.Core.List.{List, [], ◌∷◌}
use native.Mathlib.Omega.{arith}
use borrow.Author.Tests.{eqb-true, eqb-false, lt-ltb, le-ltb}
use lib.Dec.{eqb, leb, ltb}
use lib.ListN.{length, get_or}
use Rattle.bus.specs.declared.Access.{Access}
use Rattle.bus.specs.declared.Refusal.{Refusal}
use Rattle.bus.specs.declared.Refusal.TheVariants.{NoMeaning, NoChannel, Malformed, WrongMemory, NotRandom, NoWords, TooFewFree, NothingStored, WordsStored}
use Rattle.bus.specs.Answers.{refusal_number, number_of, value_of, is_done}
use Rattle.bus.specs.Table.{by_table}
use Rattle.bus.proofs.Choices.{both_ways, both_by_test}
use Rattle.bus.proofs.Numbers.{each_number}
use Rattle.std.specs.Prelude.{Some, None, is_some}
use Rattle.layout.specs.Length.{events, event_length, rounded_up}
use Rattle.meb.specs.Ring.{Memory}
use Rattle.meb.specs.Stores.{free, shorter, handed}
use Rattle.v830.specs.declared.Call.{Call}
use Rattle.v830.specs.declared.Call.TheVariants as call
use Rattle.v830.specs.declared.deeds.Deed.{Deed}
use Rattle.v830.specs.declared.deeds.Deed.TheVariants.{Refuse, Pulses, Veto, Test, Clear, Trigger, HandOut, ReadCounter, ReadEnable, WriteEnable, ReadControl, WriteControl, SetBits, ClearBits, Reset, ReadTriggers, ReadEvents}
use Rattle.v830.specs.declared.deeds.Source.{Source}
use Rattle.v830.specs.declared.deeds.Source.TheVariants.{Line, Register}
use Rattle.v830.specs.declared.Outcome.{Outcome}
use Rattle.v830.specs.declared.V830.{V830}
use Rattle.v830.specs.State.{mode, is_random, settings, formed, power_on, storing}
use Rattle.v830.specs.Outcomes.{Step, kept, refused, done, started}
use Rattle.v830.specs.Trigger.{accepted, triggered}
use Rattle.v830.specs.Counting.{restarted}
use Rattle.v830.specs.Registers.{registers, handed_on, controlled, as_written, with_bits, without_bits, events_read}
use Rattle.v830.specs.Deeds.{deed_at, deed_of, done_by}
use Rattle.v830.specs.Calls.{is_lent_right, step_of}
use Rattle.v830.specs.Account.{Made, made, lending, lending_another, account_of}
use Rattle.v830.specs.Numbers.{Same, trigger_number, control_number, deed_number, call_number, number_for, start_number}
use Rattle.v830.proofs.Staying.{formed_parts}

module _ (s : V830) (memory : Memory) where
  -- a call's number, and that where it refuses it changes nothing
  abbrev Answered : ℕ → Step → Type 0
  Answered n r = (number_of r.outcome.answer ≡ n) × Same s memory r

  declines : (why : Refusal) → Answered (refusal_number why) (kept memory (refused why s))
  declines why = (refl, λ e. (refl, refl, refl))

  does : (v : ℕ) (t : V830) (m : Memory) → Answered 0 (kept m (done v t))
  does v t m = (refl, λ e. absurd (false≢true (sym e)))

  -- what a test picks of what is done, and the refusal
  does_if : (b : Bool) (why : Refusal) (v : ℕ) (t : V830) → Answered (cond b 0 (refusal_number why)) (kept memory (cond b (done v t) (refused why s)))
  does_if b why v t = both_ways (λ (n : ℕ) (o : Outcome). Answered n (kept memory o)) b 0 (refusal_number why) (done v t) (refused why s) (does v t memory) (declines why)

  trigger_answered : (by : Source) → Answered (trigger_number s) (triggered by s memory)
  trigger_answered by =
      both_ways Answered (is_random (mode s.control)) _ _ _ _
      (both_ways Answered (ltb 0 (event_length (settings s))) _ _ _ _
      (both_ways Answered (leb (event_length (settings s)) (free s.store).0) 0 9 (accepted by s memory) (kept memory (refused TooFewFree s))
      (does 0 (accepted by s memory).outcome.state (accepted by s memory).memory)
      (declines TooFewFree))
      (declines NoWords))
      (declines NotRandom)

  -- a memory read: something is stored, or nothing
  read_answered : (word : ℕ) (b : Bool) → eqb s.store.stored.0 0 ≡ b
      → Answered (cond (ltb 0 s.store.stored.0) 0 5) (kept memory (handed_on s (cond b None (handed word (shorter s.store)))))
  read_answered word true e = rw (le-ltb 0 s.store.stored.0 (omega (arith, eqb-true s.store.stored.0 0 e))) (declines NothingStored)
  read_answered word false e =
      let z = eqb-false s.store.stored.0 0 e in
      rw (lt-ltb 0 s.store.stored.0 (some s.store.stored.0 z)) (does word (storing (shorter s.store) s) memory)
    where
      some : (n : ℕ) → (n ≡ 0 → ⊥) → 0 < n
      some n z = omega (arith, z)

  -- words that are stored are those of events, unless the state is malformed
  number_answered : formed s ≡ true → Answered 0 (done_by ReadEvents s memory)
  number_answered g = go (eqb s.store.stored.0 0) (eqb (event_length (settings s)) 0) (formed_parts s g).words
    where
      n : ℕ
      n = rounded_up s.store.stored.0 (event_length (settings s))

      go : (b d : Bool) → b || not d ≡ true → Answered 0 (kept memory (events_read s (cond b (Some (events 0)) (cond d None (Some (events n))))))
      go true d e = does 0 s memory
      go false false e = does (events n).0 s memory
      go false true e = absurd (false≢true e)

  control_answered : (result : ℕ) → Answered (control_number result) (kept memory (controlled result s))
  control_answered result = does_if (is_some (mode result)) NoMeaning 0 (restarted result s)

  -- deed by deed
  deed_answered : formed s ≡ true → (d : Deed) → Answered (deed_number s d) (done_by d s memory)
  deed_answered g (Refuse why) = declines why
  deed_answered g (Pulses k n) = does_if (ltb k 32) NoChannel 0 _
  deed_answered g (Veto on) = does 0 _ memory
  deed_answered g Test = does 0 _ memory
  deed_answered g (Clear by) = does 0 _ memory
  deed_answered g (Trigger by) = trigger_answered by
  deed_answered g HandOut = read_answered (get_or memory.words s.store.first 0) (eqb s.store.stored.0 0) refl
  deed_answered g (ReadCounter k) = does _ s memory
  deed_answered g ReadEnable = does _ s memory
  deed_answered g (WriteEnable word) = does_if (eqb s.store.stored.0 0) WordsStored 0 _
  deed_answered g ReadControl = does _ s memory
  deed_answered g (WriteControl word) = control_answered (as_written word)
  deed_answered g (SetBits word) = control_answered (with_bits s word)
  deed_answered g (ClearBits word) = control_answered (without_bits s word)
  deed_answered g Reset = does 0 _ memory
  deed_answered g ReadTriggers = does _ s memory
  deed_answered g ReadEvents = number_answered g

  -- an access: the number by the table, where the place in a register does not matter
  access_answered : formed s ≡ true → (a : Access) → Answered (call_number s (call.Access a)) (done_by (deed_of (call.Access a)) s memory)
  access_answered g a =
      each_number (λ n to. Answered n (done_by (by_table Refuse (λ name place. deed_at name place a) to) s memory)) registers a (λ name. deed_number s (deed_at name 0 a)) (λ why. declines why)
      (λ place. deed_answered g HandOut)
      (λ place. deed_answered g (ReadCounter place))
      (λ place. by_direction a.write (WriteEnable a.«data») ReadEnable)
      (λ place. by_direction a.write (WriteControl a.«data») ReadControl)
      (λ place. deed_answered g (SetBits a.«data»))
      (λ place. deed_answered g (ClearBits a.«data»))
      (λ place. deed_answered g Reset)
      (λ place. deed_answered g (Clear Register))
      (λ place. deed_answered g (Trigger Register))
      (λ place. deed_answered g ReadTriggers)
      (λ place. deed_answered g ReadEvents)
    where
      by_direction : (b : Bool) (d e : Deed) → Answered (deed_number s (cond b d e)) (done_by (cond b d e) s memory)
      by_direction b d e = deed_answered g (cond b d e)

  call_answered : formed s ≡ true → (c : Call) → Answered (call_number s c) (done_by (deed_of c) s memory)
  call_answered g (call.Pulses k n) = deed_answered g (Pulses k n)
  call_answered g (call.VetoLine on) = deed_answered g (Veto on)
  call_answered g call.Test = deed_answered g Test
  call_answered g call.ClearLine = deed_answered g (Clear Line)
  call_answered g call.TriggerLine = deed_answered g (Trigger Line)
  call_answered g (call.Access a) = access_answered g a
  call_answered g call.ManClr = declines NoMeaning

  -- 12 comes first, then 10 of a call that is lent the memory
  answered : (c : Call) → Answered (number_for s memory c) (step_of s memory c)
  answered c =
      both_by_test Answered (formed s) _ 12 _ (kept memory (refused Malformed s))
      (λ g. both_ways Answered (is_lent_right s memory c) (call_number s c) 10 (done_by (deed_of c) s memory) (kept memory (refused WrongMemory s)) (call_answered g c) (declines WrongMemory))
      (λ g. declines Malformed)

  -- T1: a refused call changes neither the module nor a lent word, and has the value 0
  pub v830_refused_same : (c : Call) → Same s memory (step_of s memory c)
  v830_refused_same c = (answered c).1

  -- T1: each number exactly when its line holds and no earlier one does
  pub v830_number_is : (c : Call) → number_of (step_of s memory c).outcome.answer ≡ number_for s memory c
  v830_number_is c = (answered c).0

-- the start by its two tests
start_answered : (geo : ℕ) (n : ℕ) (b d : Bool)
    → let o : Outcome = cond b (cond d (done 0 (power_on 0 geo n)) (refused WrongMemory (power_on 0 0 0))) (refused Malformed (power_on 0 0 0)) in
    (number_of o.answer ≡ cond b (cond d 0 10) 12) × (is_done o.answer ≡ false → (o.state ≡ power_on 0 0 0) × (value_of o.answer ≡ 0))
start_answered geo n true true = (refl, λ e. absurd (false≢true (sym e)))
start_answered geo n true false = (refl, λ e. (refl, refl))
start_answered geo n false d = (refl, λ e. (refl, refl))

module _ (geo : ℕ) (memory : Memory) where
  -- "A refused start returns the power-on record with GEO and capacity 0 .."
  pub v830_start_refused : is_done (started geo memory).answer ≡ false → ((started geo memory).state ≡ power_on 0 0 0) × (value_of (started geo memory).answer ≡ 0)
  v830_start_refused = (start_answered geo (length memory.words) (leb geo 31) (leb 1 (length memory.words) && leb (length memory.words) 32768)).1

  pub v830_start_number : number_of (started geo memory).answer ≡ start_number geo memory
  v830_start_number = (start_answered geo (length memory.words) (leb geo 31) (leb 1 (length memory.words) && leb (length memory.words) 32768)).0

-- ".. which gets 12 from then on": every call of it is refused with 12 and leaves it as it is
refused_stays : (memory : Memory) (c : Call) → (number_of (step_of (power_on 0 0 0) memory c).outcome.answer ≡ 12) × ((step_of (power_on 0 0 0) memory c).outcome.state ≡ power_on 0 0 0)
unfolding formed
refused_stays memory c = (refl, refl)

-- over every list of calls after a refused start, whatever the memories that they are lent: the next one gets 12 too
pub v830_refused_start : (geo : ℕ) (first : Memory) (calls : List Made) (next : Made) → is_done (started geo first).answer ≡ false
    → let last : Step = (account_of calls (kept first (started geo first))).last in
    (number_of (made last next).outcome.answer ≡ 12) × (last.outcome.state ≡ power_on 0 0 0)
unfolding account_of
v830_refused_start geo first calls next d = go calls (kept first (started geo first)) (v830_start_refused geo first d).0
  where
    one : (b : Step) (m : Made) → b.outcome.state ≡ power_on 0 0 0 → (number_of (made b m).outcome.answer ≡ 12) × ((made b m).outcome.state ≡ power_on 0 0 0)
    one b (lending c) e = rw e (refused_stays b.memory c)
    one b (lending_another lend c) e = rw e (refused_stays lend c)

    go : (ms : List Made) (b : Step) → b.outcome.state ≡ power_on 0 0 0
        → (number_of (made (account_of ms b).last next).outcome.answer ≡ 12) × ((account_of ms b).last.outcome.state ≡ power_on 0 0 0)
    go [] b e = ((one b next e).0, e)
    go (m ∷ ms) b e = go ms (made b m) (one b m e).1
