-- What a call does depends on the lent words only by those that are stored: on two memories that store the same words
-- it has the same outcome, and leaves the same words stored. Assumes nothing.
use Prim.Native.Nat.{ℕ, ◌-◌, ◌%◌, ◌^◌, ◌≤◌, ◌<◌}
use mathlib.Core.Path.{◌≡◌, refl, sym, ap, ◌∙◌}
use mathlib.Core.Bool.{Bool, true, false, cond, not, ◌||◌}
use mathlib.Core.List.{List, [], ◌∷◌, ◌++◌}
use native.Mathlib.Omega.{arith}
use borrow.Author.Tests.{eq-eqb, eqb-false, leb-true}
use lib.Dec.{eqb, leb, ltb}
use lib.ListN.{length, get_or}
use Rattle.bus.specs.declared.Refusal.TheVariants.{Malformed, WrongMemory, NoChannel, NoMeaning, WordsStored, TooFewFree}
use Rattle.bus.proofs.Choices.{both_ways, both_by_test}
use Rattle.count.specs.Counter.{iterate}
use Rattle.std.specs.Prelude.{Option, Some, None, is_some}
use Rattle.layout.specs.declared.Events.{Events}
use Rattle.layout.specs.Layout.{event_words}
use Rattle.layout.specs.Length.{event_length, events_in}
use Rattle.layout.proofs.Written.{words_length}
use Rattle.meb.specs.declared.Store.{Store}
use Rattle.meb.specs.Ring.{Memory}
use Rattle.meb.specs.Stores.{stored_words, emptied, shorter, free, Filled, put_of, handed}
use Rattle.meb.proofs.RingLaws.{stored_after_put, stored_after_hand_out, emptied_none}
use Rattle.v830.specs.declared.Call.{Call}
use Rattle.v830.specs.declared.deeds.Deed.{Deed}
use Rattle.v830.specs.declared.deeds.Deed.TheVariants.{Refuse, Pulses, Veto, Test, Clear, Trigger, HandOut, ReadCounter, ReadEnable, WriteEnable, ReadControl, WriteControl, SetBits, ClearBits, Reset, ReadTriggers, ReadEvents}
use Rattle.v830.specs.declared.deeds.Source.{Source}
use Rattle.v830.specs.declared.Outcome.{Outcome}
use Rattle.v830.specs.declared.V830.{V830}
use Rattle.v830.specs.State.{mode, is_random, is_set, settings, formed, storing, enabling}
use Rattle.v830.specs.Outcomes.{Step, kept, refused, done}
use Rattle.v830.specs.Counting.{pulse, restarted}
use Rattle.v830.specs.Trigger.{event_of, counted, accepted, triggered}
use Rattle.v830.specs.Registers.{handed_on, events_read, controlled, as_written, with_bits, without_bits}
use Rattle.v830.specs.Deeds.{deed_of, done_by}
use Rattle.v830.specs.Calls.{is_lent, is_lent_right, step_of}
use Rattle.v830.proofs.Forming.{formed_facts}
use Rattle.v830.proofs.Live.{still_pulses}

-- the first of two lists that are the same
first_of : {x y : ℕ} {xs ys : List ℕ} → ◌≡◌ {A = List ℕ} (x ∷ xs) (y ∷ ys) → x ≡ y
first_of e = ap (λ (l : List ℕ). get_or l 0 0) e

rest_of : {x y : ℕ} {xs ys : List ℕ} → ◌≡◌ {A = List ℕ} (x ∷ xs) (y ∷ ys) → xs ≡ ys
rest_of e = ap behind e
  where
    behind : List ℕ → List ℕ
    behind [] = []
    behind (x ∷ xs) = xs

-- what is known of a memory after an event does not depend on its words
put_store : (x : Store) (m n : Memory) (ws : List ℕ) → (put_of x m ws).store ≡ (put_of x n ws).store
put_store x m n ws = both_ways (λ (p q : Filled). p.store ≡ q.store) (leb (length ws) (free x).0) _ _ _ _ refl refl

-- two steps that have the same outcome and leave the same words stored
pub record Alike (p q : Step) : Type 0 where
  pub outcome : p.outcome ≡ q.outcome
  pub words : stored_words p.outcome.state.store p.memory ≡ stored_words p.outcome.state.store q.memory

module _ (s : V830) (m n : Memory) (g : formed s ≡ true) (l : length m.words ≡ s.store.capacity.0) (r : length n.words ≡ s.store.capacity.0) (e : stored_words s.store m ≡ stored_words s.store n) where
  -- an outcome that has the store of the module, or one that is emptied
  same : (o : Outcome) → o.state.store ≡ s.store → Alike (kept m o) (kept n o)
  same o t = record { outcome = refl; words = ap (λ (x : Store). stored_words x m) t ∙ e ∙ ap (λ (x : Store). stored_words x n) (sym t) }

  empty : (o : Outcome) → o.state.store ≡ emptied s.store → Alike (kept m o) (kept n o)
  empty o t =
      record { outcome = refl; words = ap (λ (x : Store). stored_words x m) t ∙ emptied_none s.store m ∙ sym (emptied_none s.store n) ∙ ap (λ (x : Store). stored_words x n) (sym t) }

  control_alike : (result : ℕ) → Alike (kept m (controlled result s)) (kept n (controlled result s))
  control_alike result = go (is_some (mode result))
    where
      go : (b : Bool) → Alike (kept m (cond b (done 0 (restarted result s)) (refused NoMeaning s))) (kept n (cond b (done 0 (restarted result s)) (refused NoMeaning s)))
      go true = empty (done 0 (restarted result s)) refl
      go false = same (refused NoMeaning s) refl

  clear_alike : (by : Source) → Alike (done_by (Clear by) s m) (done_by (Clear by) s n)
  clear_alike by = record { outcome = refl; words = store (is_set 6 s.control) }
    where
      store : (b : Bool) → stored_words (cond b (emptied s.store) s.store) m ≡ stored_words (cond b (emptied s.store) s.store) n
      store true = emptied_none s.store m ∙ sym (emptied_none s.store n)
      store false = e

  -- a memory read: the oldest of the words stored
  read_alike : Alike (done_by HandOut s m) (done_by HandOut s n)
  read_alike = go (eqb s.store.stored.0 0) refl
    where
      a : ℕ
      a = get_or m.words s.store.first 0

      b : ℕ
      b = get_or n.words s.store.first 0

      go : (t : Bool) → eqb s.store.stored.0 0 ≡ t → Alike (kept m (handed_on s (cond t None (handed a (shorter s.store))))) (kept n (handed_on s (cond t None (handed b (shorter s.store)))))
      go true z = same _ refl
      go false z =
          let some : 0 < s.store.stored.0 = omega (arith, eqb-false s.store.stored.0 0 z) in
          let in-ring = (formed_facts s g).3 in
          let both : ◌≡◌ {A = List ℕ} (a ∷ stored_words (shorter s.store) m) (b ∷ stored_words (shorter s.store) n) =
          sym (stored_after_hand_out s.store m some in-ring) ∙ e ∙ stored_after_hand_out s.store n some in-ring in
          record { outcome = ap (λ (w : ℕ). done w (storing (shorter s.store) s)) (first_of both); words = rest_of both }

  -- an accepted trigger: the event's words behind those stored
  accept_alike : (by : Source) → event_length (settings s) ≤ (free s.store).0 → Alike (accepted by s m) (accepted by s n)
  accept_alike by room =
      let ws : List ℕ = event_words (settings s) (event_of by s) in
      let fits : length ws ≤ s.store.capacity.0 - s.store.stored.0 = omega (arith, words_length (settings s) (event_of by s)) in
      let store = put_store s.store m n ws in
      record {
        outcome = ap (λ (x : Store). done 0 (counted x s)) store;
        words =
            stored_after_put s.store m ws l fits
            ∙ ap (λ (x : List ℕ). x ++ ws) e
            ∙ sym (stored_after_put s.store n ws r fits)
            ∙ ap (λ (x : Store). stored_words x (put_of s.store n ws).memory) (sym store);
      }

  trigger_alike : (by : Source) → Alike (triggered by s m) (triggered by s n)
  trigger_alike by =
      both_ways Alike (is_random (mode s.control)) _ _ _ _
      (both_ways Alike (ltb 0 (event_length (settings s))) _ _ _ _
      (both_by_test Alike (leb (event_length (settings s)) (free s.store).0) (accepted by s m) (kept m (refused TooFewFree s)) (accepted by s n) (kept n (refused TooFewFree s))
      (λ t. accept_alike by (leb-true (event_length (settings s)) (free s.store).0 t))
      (λ t. same _ refl))
      (same _ refl))
      (same _ refl)

  number_alike : (x : Option Events) → Alike (kept m (events_read s x)) (kept n (events_read s x))
  number_alike (Some events) = same _ refl
  number_alike None = same _ refl

  pulses_alike : (k t : ℕ) (b : Bool) → Alike (kept m (cond b (done 0 (iterate t (pulse k) s)) (refused NoChannel s))) (kept n (cond b (done 0 (iterate t (pulse k) s)) (refused NoChannel s)))
  pulses_alike k t true = same _ (still_pulses t k s).store
  pulses_alike k t false = same _ refl

  enable_alike : (word : ℕ) (b : Bool) → Alike (kept m (cond b (done 0 (enabling word s)) (refused WordsStored s))) (kept n (cond b (done 0 (enabling word s)) (refused WordsStored s)))
  enable_alike word true = same _ refl
  enable_alike word false = same _ refl

  deed_alike : (d : Deed) → Alike (done_by d s m) (done_by d s n)
  deed_alike (Refuse why) = same _ refl
  deed_alike (Pulses k t) = pulses_alike k t (ltb k 32)
  deed_alike (Veto on) = same _ refl
  deed_alike Test = same _ refl
  deed_alike (Clear by) = clear_alike by
  deed_alike (Trigger by) = trigger_alike by
  deed_alike HandOut = read_alike
  deed_alike (ReadCounter k) = same _ refl
  deed_alike ReadEnable = same _ refl
  deed_alike (WriteEnable word) = enable_alike (word % 2 ^ 32) (eqb s.store.stored.0 0)
  deed_alike ReadControl = same _ refl
  deed_alike (WriteControl word) = control_alike (as_written word)
  deed_alike (SetBits word) = control_alike (with_bits s word)
  deed_alike (ClearBits word) = control_alike (without_bits s word)
  deed_alike Reset = empty _ refl
  deed_alike ReadTriggers = same _ refl
  deed_alike ReadEvents = number_alike (events_in (settings s) s.store.stored.0)

  -- both memories have their length
  both_right : (c : Call) → is_lent_right s m c ≡ is_lent_right s n c
  both_right c = ap (λ (b : Bool). not (is_lent c) || b) (eq-eqb (length m.words) s.store.capacity.0 l ∙ sym (eq-eqb (length n.words) s.store.capacity.0 r))

  alike : (c : Call) → Alike (step_of s m c) (step_of s n c)
  alike c =
      both_ways Alike (formed s) _ (kept m (refused Malformed s)) _ (kept n (refused Malformed s))
      (rw (both_right c)
      (both_ways Alike (is_lent_right s n c) (done_by (deed_of c) s m) (kept m (refused WrongMemory s)) (done_by (deed_of c) s n) (kept n (refused WrongMemory s)) (deed_alike (deed_of c)) (same _ refl)))
      (same _ refl)

  pub blind : (c : Call)
      → ((step_of s m c).outcome ≡ (step_of s n c).outcome)
      × (stored_words (step_of s m c).outcome.state.store (step_of s m c).memory ≡ stored_words (step_of s m c).outcome.state.store (step_of s n c).memory)
  blind c = let a = alike c in (a.outcome, a.words)
