-- A record that is not malformed stays so, for every call, record and memory; capacity and the memory's length stay
-- what they are. By the gate and, deed by deed, the parts of `formed`. Assumes nothing.
use Prim.Native.Nat.{ℕ, ◌-◌, ◌%◌, ◌^◌}
use mathlib.Core.Path.{◌≡◌, refl, sym, ap, ◌∙◌}
use mathlib.Core.Bool.{Bool, true, false, cond, ◌&&◌, ◌||◌, not}
use mathlib.Core.List.{List}
use native.Mathlib.Omega.{arith}
use borrow.Author.Tests.{eqb-true, ltb-true}
use lib.Dec.{eqb, leb, ltb}
use lib.ListN.{length, get_or}
use Rattle.bus.specs.declared.Refusal.{Refusal}
use Rattle.bus.specs.declared.Refusal.TheVariants.{NothingStored, Malformed, WrongMemory, NoMeaning, NoChannel, NotRandom, NoWords, TooFewFree, WordsStored}
use Rattle.bus.proofs.Choices.{either_way, by_test}
use Rattle.bus.proofs.Places.{left_of, right_of}
use Rattle.count.specs.Counter.{iterate}
use Rattle.std.specs.Prelude.{Option, Some, None, is_some}
use Rattle.layout.specs.declared.Words.{Words}
use Rattle.layout.specs.declared.Events.{Events}
use Rattle.layout.specs.Layout.{event_words}
use Rattle.layout.specs.Length.{event_length, events_in}
use Rattle.meb.specs.declared.Store.{Store}
use Rattle.meb.specs.Ring.{Memory}
use Rattle.meb.specs.Stores.{emptied, fits, free, shorter, handed}
use Rattle.meb.proofs.Fitting.{store_facts, empty_fits, emptied_fits, shorter_fits, put_fits, put_capacity}
use Rattle.meb.proofs.RingLaws.{put_keeps_length}
use Rattle.v830.specs.declared.Call.{Call}
use Rattle.v830.specs.declared.deeds.Deed.{Deed}
use Rattle.v830.specs.declared.deeds.Deed.TheVariants.{Refuse, Pulses, Veto, Test, Clear, Trigger, HandOut, ReadCounter, ReadEnable, WriteEnable, ReadControl, WriteControl, SetBits, ClearBits, Reset, ReadTriggers, ReadEvents}
use Rattle.v830.specs.declared.deeds.Source.{Source}
use Rattle.v830.specs.declared.Outcome.{Outcome}
use Rattle.v830.specs.declared.V830.{V830}
use Rattle.v830.specs.State.{mode, is_random, is_set, settings, explained, formed, storing, enabling}
use Rattle.v830.specs.Outcomes.{Step, kept, refused, done}
use Rattle.v830.specs.Counting.{pulse, restarted}
use Rattle.v830.specs.Trigger.{event_of, filled_by, accepted, triggered}
use Rattle.v830.specs.Registers.{as_written, with_bits, without_bits, handed_on, controlled, events_read}
use Rattle.v830.specs.Deeds.{deed_of, done_by}
use Rattle.v830.specs.Calls.{is_lent_right, step_of}
use Rattle.v830.proofs.Live.{still_pulses}

-- the four tests of `formed`
pub record Formed (s : V830) : Type 0 where
  pub geo : leb s.geo 31 ≡ true
  pub store : fits s.store ≡ true
  pub words : explained s ≡ true
  pub mode : is_some (mode s.control) ≡ true

pub formed_parts : (s : V830) → formed s ≡ true → Formed s
unfolding formed
formed_parts s e =
    let three = left_of (leb s.geo 31 && fits s.store && explained s) _ e in
    let two = left_of (leb s.geo 31 && fits s.store) _ three in
    record {
      geo = left_of (leb s.geo 31) _ two;
      store = right_of (leb s.geo 31) _ two;
      words = right_of (leb s.geo 31 && fits s.store) _ three;
      mode = right_of (leb s.geo 31 && fits s.store && explained s) _ e;
    }

pub parts_formed : (s : V830) → Formed s → formed s ≡ true
unfolding formed
parts_formed s f = rw (f.geo, f.store, f.words, f.mode)

module _ (s : V830) (memory : Memory) (h : formed s ≡ true) where
  f : Formed s
  f = formed_parts s h

  -- what a call leaves that is not malformed
  abbrev Well : Outcome → Type 0
  Well o = formed o.state ≡ true

  -- CLEAR: another store, emptied or as it was
  clear_formed : (b : Bool) → formed (storing (cond b (emptied s.store) s.store) s) ≡ true
  clear_formed true = parts_formed _ (record { geo = f.geo; store = emptied_fits s.store f.store; words = refl; mode = f.mode })
  clear_formed false = parts_formed _ (record { geo = f.geo; store = f.store; words = f.words; mode = f.mode })

  -- a write of Control
  control_formed : (result : ℕ) → Well (controlled result s)
  control_formed result =
      by_test Well (is_some (mode result)) (done 0 (restarted result s)) (refused NoMeaning s)
      (λ m. parts_formed _ (record { geo = f.geo; store = emptied_fits s.store f.store; words = refl; mode = m }))
      (λ m. h)

  -- words that are stored are those of events
  some_words : eqb s.store.stored.0 0 ≡ false → not (eqb (event_length (settings s)) 0) ≡ true
  some_words e = rw e at f.words

  or_right_true : (b d : Bool) → d ≡ true → b || d ≡ true
  or_right_true true d e = refl
  or_right_true false d e = e

  -- a memory read
  read_formed : (b : Bool) → eqb s.store.stored.0 0 ≡ b → (word : ℕ) → Well (handed_on s (cond b None (handed word (shorter s.store))))
  read_formed true e word = h
  read_formed false e word =
      parts_formed _
      (record { geo = f.geo; store = shorter_fits s.store f.store; words = or_right_true (eqb (s.store.stored.0 - 1) 0) _ (some_words e); mode = f.mode })

  -- an accepted trigger: its event has words
  accept_formed : (by : Source) → ltb 0 (event_length (settings s)) ≡ true → Well (accepted by s memory).outcome
  accept_formed by w =
      parts_formed _
      (record {
        geo = f.geo;
        store = put_fits s.store memory (event_words (settings s) (event_of by s)) f.store;
        words = or_right_true (eqb (filled_by by s memory).store.stored.0 0) _ (some (event_length (settings s)) w);
        mode = f.mode;
      })
    where
      some : (n : ℕ) → ltb 0 n ≡ true → not (eqb n 0) ≡ true
      some n e = go (eqb n 0) refl
        where
          go : (b : Bool) → eqb n 0 ≡ b → not b ≡ true
          go true q = let z : n ≡ 0 = eqb-true n 0 q in let l = ltb-true 0 n e in absurd (omega arith)
          go false q = refl

  trigger_formed : (by : Source) → Well (triggered by s memory).outcome
  trigger_formed by =
      let P : Step → Type 0 = λ r. Well r.outcome in
      either_way P (is_random (mode s.control)) _ (kept memory (refused NotRandom s))
      (by_test P (ltb 0 (event_length (settings s))) _ (kept memory (refused NoWords s))
      (λ w. either_way P (leb (event_length (settings s)) (free s.store).0) (accepted by s memory) (kept memory (refused TooFewFree s)) (accept_formed by w) h)
      (λ w. h))
      h

  number_formed : (e : Option Events) → Well (events_read s e)
  number_formed (Some events) = h
  number_formed None = h

  pulses_formed : (k n : ℕ) → formed (iterate n (pulse k) s) ≡ true
  unfolding formed
  pulses_formed k n = let t = still_pulses n k s in rw (t.geo, t.store, t.control, t.enable) h

  reset_formed : Well (done_by Reset s memory).outcome
  reset_formed =
      let m = store_facts s.store f.store in
      parts_formed _ (record { geo = f.geo; store = empty_fits s.store.capacity.0 m.0 m.1; words = refl; mode = refl })

  -- deed by deed
  pub deed_formed : (d : Deed) → Well (done_by d s memory).outcome
  unfolding formed
  deed_formed (Refuse why) = h
  deed_formed (Pulses k n) = either_way Well (ltb k 32) (done 0 (iterate n (pulse k) s)) (refused NoChannel s) (pulses_formed k n) h
  deed_formed (Veto on) = h
  deed_formed Test = h
  deed_formed (Clear by) = clear_formed (is_set 6 s.control)
  deed_formed (Trigger by) = trigger_formed by
  deed_formed HandOut = read_formed (eqb s.store.stored.0 0) refl (get_or memory.words s.store.first 0)
  deed_formed (ReadCounter k) = h
  deed_formed ReadEnable = h
  deed_formed (WriteEnable word) =
      by_test Well (eqb s.store.stored.0 0) (done 0 (enabling (word % 2 ^ 32) s)) (refused WordsStored s)
      (λ e. parts_formed (enabling (word % 2 ^ 32) s) (record { geo = f.geo; store = f.store; words = rw e; mode = f.mode }))
      (λ e. h)
  deed_formed ReadControl = h
  deed_formed (WriteControl word) = control_formed (as_written word)
  deed_formed (SetBits word) = control_formed (with_bits s word)
  deed_formed (ClearBits word) = control_formed (without_bits s word)
  deed_formed Reset = reset_formed
  deed_formed ReadTriggers = h
  deed_formed ReadEvents = number_formed (events_in (settings s) s.store.stored.0)

-- T9: "a record that is not malformed stays so", for every call
pub formed_stays : (s : V830) (memory : Memory) (c : Call) → formed s ≡ true → formed (step_of s memory c).outcome.state ≡ true
formed_stays s memory c h =
    let P : Step → Type 0 = λ r. formed r.outcome.state ≡ true in
    either_way P (formed s) _ (kept memory (refused Malformed s))
    (either_way P (is_lent_right s memory c) (done_by (deed_of c) s memory) (kept memory (refused WrongMemory s)) (deed_formed s memory h (deed_of c)) h)
    h

-- ---- what every call leaves as it is

module _ (s : V830) (memory : Memory) where
  -- the capacity, and how many words are lent
  record Kept (r : Step) : Type 0 where
    pub capacity : r.outcome.state.store.capacity ≡ s.store.capacity
    pub words : length r.memory.words ≡ length memory.words

  abbrev Leaves : Outcome → Type 0
  Leaves o = Kept (kept memory o)

  unmoved : (why : Refusal) → Leaves (refused why s)
  unmoved why = record { capacity = refl; words = refl }

  control_keeps : (result : ℕ) → Leaves (controlled result s)
  control_keeps result = either_way Leaves (is_some (mode result)) (done 0 (restarted result s)) (refused NoMeaning s) (record { capacity = refl; words = refl }) (unmoved NoMeaning)

  clear_keeps : (b : Bool) → (cond b (emptied s.store) s.store).capacity ≡ s.store.capacity
  clear_keeps true = refl
  clear_keeps false = refl

  read_keeps : (word : ℕ) (b : Bool) → Leaves (handed_on s (cond b None (handed word (shorter s.store))))
  read_keeps word true = unmoved NothingStored
  read_keeps word false = record { capacity = refl; words = refl }

  trigger_keeps : (by : Source) → Kept (triggered by s memory)
  trigger_keeps by =
      let ws : List ℕ = event_words (settings s) (event_of by s) in
      either_way Kept (is_random (mode s.control)) _ (kept memory (refused NotRandom s))
      (either_way Kept (ltb 0 (event_length (settings s))) _ (kept memory (refused NoWords s))
      (either_way Kept (leb (event_length (settings s)) (free s.store).0) (accepted by s memory) (kept memory (refused TooFewFree s))
      (record { capacity = put_capacity s.store memory ws; words = put_keeps_length s.store memory ws })
      (unmoved TooFewFree))
      (unmoved NoWords))
      (unmoved NotRandom)

  number_keeps : (e : Option Events) → Leaves (events_read s e)
  number_keeps (Some events) = record { capacity = refl; words = refl }
  number_keeps None = unmoved Malformed

  deed_keeps : (d : Deed) → Kept (done_by d s memory)
  deed_keeps (Refuse why) = unmoved why
  deed_keeps (Pulses k n) =
      either_way Leaves (ltb k 32) (done 0 (iterate n (pulse k) s)) (refused NoChannel s)
      (record { capacity = ap (λ (m : Store). m.capacity) (still_pulses n k s).store; words = refl }) (unmoved NoChannel)
  deed_keeps (Veto on) = record { capacity = refl; words = refl }
  deed_keeps Test = record { capacity = refl; words = refl }
  deed_keeps (Clear by) = record { capacity = clear_keeps (is_set 6 s.control); words = refl }
  deed_keeps (Trigger by) = trigger_keeps by
  deed_keeps HandOut = read_keeps (get_or memory.words s.store.first 0) (eqb s.store.stored.0 0)
  deed_keeps (ReadCounter k) = record { capacity = refl; words = refl }
  deed_keeps ReadEnable = record { capacity = refl; words = refl }
  deed_keeps (WriteEnable word) =
      either_way Leaves (eqb s.store.stored.0 0) (done 0 (enabling (word % 2 ^ 32) s)) (refused WordsStored s) (record { capacity = refl; words = refl }) (unmoved WordsStored)
  deed_keeps ReadControl = record { capacity = refl; words = refl }
  deed_keeps (WriteControl word) = control_keeps (as_written word)
  deed_keeps (SetBits word) = control_keeps (with_bits s word)
  deed_keeps (ClearBits word) = control_keeps (without_bits s word)
  deed_keeps Reset = record { capacity = refl; words = refl }
  deed_keeps ReadTriggers = record { capacity = refl; words = refl }
  deed_keeps ReadEvents = number_keeps (events_in (settings s) s.store.stored.0)

  call_keeps : (c : Call) → Kept (step_of s memory c)
  call_keeps c =
      either_way Kept (formed s) _ (kept memory (refused Malformed s))
      (either_way Kept (is_lent_right s memory c) (done_by (deed_of c) s memory) (kept memory (refused WrongMemory s)) (deed_keeps (deed_of c)) (unmoved WrongMemory))
      (unmoved Malformed)

  -- no call changes the capacity or the number of lent words
  pub length_stays : (c : Call) → ((step_of s memory c).outcome.state.store.capacity ≡ s.store.capacity) × (length (step_of s memory c).memory.words ≡ length memory.words)
  length_stays c = let k = call_keeps c in (k.capacity, k.words)

-- a module that is not malformed and has its memory: what the gate asks
pub sound_stays : (s : V830) (memory : Memory) (c : Call) → length memory.words ≡ s.store.capacity.0
    → length (step_of s memory c).memory.words ≡ (step_of s memory c).outcome.state.store.capacity.0
sound_stays s memory c e = let k = length_stays s memory c in k.1 ∙ e ∙ sym (ap (λ (w : Words). w.0) k.0)
