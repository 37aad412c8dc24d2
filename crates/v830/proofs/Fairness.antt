-- One call balances: what is stored, then what its trigger stores, is what it hands out, then what is stored after
-- it; what its event has of a channel and the channel's live counter are what was live and what was admitted. Deed by
-- deed, behind the gate. Assumes nothing.
use Prim.Native.Nat.{ℕ, ◌+◌, ◌%◌, ◌^◌, ◌≤◌, ◌<◌}
use mathlib.Core.Path.{◌≡◌, refl, sym, ap, ◌∙◌}
use mathlib.Core.Bool.{Bool, true, false, cond, not, ◌&&◌, false≢true}
use mathlib.Core.List.{List, [], ◌++◌, append-nil}
use native.Mathlib.Nat.{add-zero, zero-add, mod-lt}
use native.Mathlib.Omega.{arith}
use borrow.Author.Tests.{ltb-true, leb-true, eqb-true, eqb-false, not-true}
use lib.Dec.{eqb, leb, ltb}
use lib.ListN.{length, get_or, get_or-replicate, length-map}
use Rattle.bus.specs.declared.Refusal.{Refusal}
use Rattle.std.specs.Prelude.{Ok, Err, is_some}
use Rattle.bus.specs.declared.Refusal.TheVariants.{Malformed, WrongMemory, NoMeaning, NoChannel, NotRandom, NoWords, TooFewFree, NothingStored, WordsStored}
use Rattle.bus.specs.Answers.{Answer}
use Rattle.bus.proofs.Choices.{either_way, by_test}
use Rattle.count.specs.Counter.{next, iterate}
use Rattle.count.proofs.Mapping.{get_d_map}
use Rattle.std.specs.Prelude.{Option, Some, None}
use Rattle.layout.specs.declared.Events.{Events}
use Rattle.layout.specs.Layout.{event_words}
use Rattle.layout.specs.Length.{event_length, events_in}
use Rattle.layout.specs.Reader.{count_in}
use Rattle.layout.proofs.Written.{words_length}
use Rattle.meb.specs.Ring.{Memory}
use Rattle.meb.specs.Stores.{stored_words, shorter, free, handed}
use Rattle.meb.proofs.RingLaws.{stored_after_put, stored_after_hand_out}
use Rattle.v830.specs.declared.Call.{Call}
use Rattle.v830.specs.declared.Call.TheVariants as call
use Rattle.v830.specs.declared.deeds.Deed.{Deed}
use Rattle.v830.specs.declared.deeds.Deed.TheVariants.{Refuse, Pulses, Veto, Test, Clear, Trigger, HandOut, ReadCounter, ReadEnable, WriteEnable, ReadControl, WriteControl, SetBits, ClearBits, Reset, ReadTriggers, ReadEvents}
use Rattle.v830.specs.declared.deeds.Source.{Source}
use Rattle.v830.specs.declared.deeds.Source.TheVariants.{Line}
use Rattle.v830.specs.declared.Outcome.{Outcome}
use Rattle.v830.specs.declared.V830.{V830}
use Rattle.v830.specs.State.{mode, is_random, is_set, settings, zeros, formed, enabling, vetoed}
use Rattle.v830.specs.Outcomes.{Step, kept, refused, done}
use Rattle.v830.specs.Counting.{pulse, tested}
use Rattle.v830.specs.Trigger.{event_of, accepted, triggered}
use Rattle.v830.specs.Registers.{handed_on, events_read, controlled, as_written, with_bits, without_bits}
use Rattle.v830.specs.Deeds.{deed_of, done_by}
use Rattle.v830.specs.Calls.{is_lent_right, has_length, gated, step_of}
use Rattle.v830.specs.Account.{Made, made, lending, lending_another, Role, reads_memory, triggers_by, writes_control, clears_all, pulses_on, tests_all, no_part, role_of, role_in, handed_by, accepted_by, admitted_by, move_by, move_of, words_of, AllRead, counts_in, live, enabled, modulus, Fits, Balanced, ends_with, goes_on, other, stays}
use Rattle.v830.proofs.Forming.{formed_facts}
use Rattle.v830.proofs.Live.{still_pulses, pulses_live, counts_of_lem}
use Rattle.v830.proofs.Modular.{next_mod, taken_mod}
use Rattle.v830.proofs.ReadsBack.{event_reads_back}

module _ (k : ℕ) (b : Step) where
  abbrev s : V830
  s = b.outcome.state

  -- a call of this role is a move that balances, if it does not end the stretch
  abbrev Goes : Role → Step → Type 0
  Goes role r = ends_with role r.outcome.answer ≡ false → Balanced k (enabled k s) b (move_by s role r.outcome.answer) r

  module _ (f : Fits s) (h : k < 32) where
    -- a call that has no part in the store, which it leaves as it was, whatever it answers
    quiet : (role : Role) (answer : Answer) (t : V830) → accepted_by s role answer ≡ [] → handed_by role answer ≡ [] → t.store ≡ s.store → t.control ≡ s.control → Fits t
        → live k t % modulus s ≡ (live k s + admitted_by k s role answer) % modulus s → Goes role (kept b.memory (record { answer = answer; state = t }))
    unfolding words_of counts_in AllRead
    quiet role answer t none nothing p q g l e =
        record {
          words = rw (none, nothing) (append-nil (stored_words s.store b.memory) ∙ ap (λ m. stored_words m b.memory) (sym p));
          counts = λ on reset. rw (none, zero-add) l;
          read = rw none tt;
          control = q;
          fits = g;
        }

    unmoved : live k s % modulus s ≡ (live k s + 0) % modulus s
    unmoved = rw add-zero

    -- a refused call
    declined : (role : Role) (why : Refusal) → Goes role (kept b.memory (refused why s))
    unfolding words_of counts_in AllRead
    declined role why e =
        let n = nothing role in
        record {
          words = rw (n.0, n.1) (append-nil (stored_words s.store b.memory));
          counts = λ on reset. rw (n.0, n.2, zero-add) unmoved;
          read = rw n.0 tt;
          control = refl;
          fits = f;
        }
      where
        nothing : (role : Role) → (accepted_by s role (Err why) ≡ []) × (handed_by role (Err why) ≡ []) × (admitted_by k s role (Err why) ≡ 0)
        nothing reads_memory = (refl, refl, refl)
        nothing (triggers_by source) = (refl, refl, refl)
        nothing writes_control = (refl, refl, refl)
        nothing clears_all = (refl, refl, refl)
        nothing (pulses_on channel n) = (refl, refl, refl)
        nothing tests_all = (refl, refl, refl)
        nothing no_part = (refl, refl, refl)

    -- a memory read
    read_fair : formed s ≡ true → (c : Bool) → eqb s.store.stored.0 0 ≡ c
        → Goes reads_memory (kept b.memory (handed_on s (cond c None (handed (get_or b.memory.words s.store.first 0) (shorter s.store)))))
    unfolding words_of counts_in AllRead
    read_fair g true t = declined reads_memory NothingStored
    read_fair g false t =
        λ e.
        record {
          words = append-nil (stored_words s.store b.memory) ∙ stored_after_hand_out s.store b.memory (omega (arith, eqb-false s.store.stored.0 0 t)) (formed_facts s g).3;
          counts = λ on reset. rw zero-add unmoved;
          read = tt;
          control = refl;
          fits = record { enable = f.enable; channels = f.channels };
        }

    -- an accepted trigger
    accepts : (by : Source) → formed s ≡ true → 0 < event_length (settings s) → length b.memory.words ≡ s.store.capacity.0 → event_length (settings s) ≤ (free s.store).0
        → Goes (triggers_by by) (accepted by s b.memory)
    unfolding words_of counts_in AllRead
    accepts by g z l room e =
        let ws : List ℕ = event_words (settings s) (event_of by s) in
        let n : length ws ≡ event_length (settings s) = words_length (settings s) (event_of by s) in
        record {
          words =
              ap (λ (x : List ℕ). stored_words s.store b.memory ++ x) (append-nil ws)
              ∙ sym (stored_after_put s.store b.memory ws l (omega (arith, n)));
          counts = λ on reset. account on reset;
          read = (event_reads_back by s f.enable f.channels (formed_facts s g).0 z, tt);
          control = refl;
          fits = record { enable = f.enable; channels = by_reset (is_set 7 s.control) };
        }
      where
        c : ℕ
        c = get_or s.counts k 0

        by_reset : (t : Bool) → length (cond t zeros s.counts) ≡ 32
        by_reset true = refl
        by_reset false = f.channels

        account : enabled k s ≡ true → is_set 7 s.control ≡ true
            → (get_or (event_of by s).counts k 0 + 0 + get_or (cond (is_set 7 s.control) zeros s.counts) k 0) % modulus s ≡ (c + 0) % modulus s
        account on reset =
            let t : get_or (event_of by s).counts k 0 ≡ count_in (settings s).short c = counts_of_lem (settings s).short s.enable s.counts k (omega (arith, f.channels)) ∙ rw on in
            rw (t, reset, get_or-replicate {A = ℕ} 32 k 0 0 h) (taken_mod (settings s).short c)

    -- a trigger
    triggers_fair : (by : Source) → formed s ≡ true → length b.memory.words ≡ s.store.capacity.0 → Goes (triggers_by by) (triggered by s b.memory)
    triggers_fair by g l =
        let P : Step → Type 0 = Goes (triggers_by by) in
        either_way P (is_random (mode s.control)) _ _
        (by_test P (ltb 0 (event_length (settings s))) _ _
        (λ z. by_test P (leb (event_length (settings s)) (free s.store).0) _ _
        (λ t. accepts by g (ltb-true 0 (event_length (settings s)) z) l (leb-true (event_length (settings s)) (free s.store).0 t))
        (λ t. declined (triggers_by by) TooFewFree))
        (λ z. declined (triggers_by by) NoWords))
        (declined (triggers_by by) NotRandom)

    -- a call that ends the stretch, if it is done
    ends_fair : (role : Role) (v : ℕ) (t : V830) → ends_with role (done v t).answer ≡ true → Goes role (kept b.memory (done v t))
    ends_fair role v t d e = absurd (false≢true (sym e ∙ d))

    control_fair : (result : ℕ) → Goes writes_control (kept b.memory (controlled result s))
    control_fair result =
        either_way (λ (o : Outcome). Goes writes_control (kept b.memory o)) (is_some (mode result)) _ (refused NoMeaning s)
        (ends_fair writes_control 0 _ refl) (declined writes_control NoMeaning)

    looks : (answer : Answer) → Goes no_part (kept b.memory (record { answer = answer; state = s }))
    looks answer = quiet no_part answer s refl refl refl refl f unmoved

    number_fair : (e : Option Events) → Goes no_part (kept b.memory (events_read s e))
    number_fair (Some events) = looks (Ok events.0)
    number_fair None = looks (Err Malformed)

    enable_fair : (word : ℕ) → Goes no_part (done_by (WriteEnable word) s b.memory)
    enable_fair word =
        either_way (λ (o : Outcome). Goes no_part (kept b.memory o)) (eqb s.store.stored.0 0) _ (refused WordsStored s)
        (quiet no_part (Ok 0) (enabling (word % 2 ^ 32) s) refl refl refl refl (record { enable = mod-lt word (omega arith); channels = f.channels }) unmoved)
        (looks (Err WordsStored))

    -- pulses: they are admitted to their channel unless VETO is on
    pulses_fair : (x n : ℕ) → Goes (pulses_on x n) (done_by (Pulses x n) s b.memory)
    pulses_fair x n =
        let t = still_pulses n x s in
        either_way (λ (o : Outcome). Goes (pulses_on x n) (kept b.memory o)) (ltb x 32) _ (refused NoChannel s)
        (quiet (pulses_on x n) (Ok 0) (iterate n (pulse x) s) refl refl t.store t.control (record { enable = rw t.enable f.enable; channels = t.channels ∙ f.channels })
        (pulses_live (settings s).short k x n s (omega (arith, f.channels)) ∙ ap (λ (i : ℕ). (live k s + i) % modulus s) (nested (not s.veto) (eqb x k))))
        (declined (pulses_on x n) NoChannel)
      where
        nested : (c d : Bool) → cond (c && d) n 0 ≡ cond c (cond d n 0) 0
        nested true d = refl
        nested false d = refl

    test_fair : Goes tests_all (done_by Test s b.memory)
    test_fair =
        quiet tests_all (Ok 0) (tested s) refl refl refl refl (record { enable = f.enable; channels = length-map s.counts (next 32) ∙ f.channels })
        (rw (get_d_map (next 32) s.counts k (omega (arith, f.channels))) (next_mod (settings s).short (live k s)))

    veto_fair : (on : Bool) → Goes no_part (done_by (Veto on) s b.memory)
    veto_fair on = quiet no_part (Ok 0) (vetoed on s) refl refl refl refl (record { enable = f.enable; channels = f.channels }) unmoved

    -- deed by deed, of a module that is not malformed and has its memory
    deed_fair : formed s ≡ true → length b.memory.words ≡ s.store.capacity.0 → (d : Deed) → Goes (role_of d) (done_by d s b.memory)
    deed_fair g l (Refuse why) = looks (Err why)
    deed_fair g l (Pulses x n) = pulses_fair x n
    deed_fair g l (Veto on) = veto_fair on
    deed_fair g l Test = test_fair
    deed_fair g l (Clear by) = ends_fair clears_all 0 _ refl
    deed_fair g l (Trigger by) = triggers_fair by g l
    deed_fair g l HandOut = read_fair g (eqb s.store.stored.0 0) refl
    deed_fair g l (ReadCounter j) = looks (Ok _)
    deed_fair g l ReadEnable = looks (Ok _)
    deed_fair g l (WriteEnable word) = enable_fair word
    deed_fair g l ReadControl = looks (Ok _)
    deed_fair g l (WriteControl word) = control_fair (as_written word)
    deed_fair g l (SetBits word) = control_fair (with_bits s word)
    deed_fair g l (ClearBits word) = control_fair (without_bits s word)
    deed_fair g l Reset = ends_fair clears_all 0 _ refl
    deed_fair g l ReadTriggers = looks (Ok _)
    deed_fair g l ReadEvents = number_fair (events_in (settings s) s.store.stored.0)

    -- behind the gate: 12 and 10 come first
    gate_fair : (P : Step → Type 0) (right : Bool) (lend : Memory) (after : Step) → P (kept lend (refused Malformed s)) → P (kept lend (refused WrongMemory s))
        → (formed s ≡ true → right ≡ true → P after) → P (gated right s lend after)
    gate_fair P right lend after p q then =
        by_test P (formed s) _ (kept lend (refused Malformed s))
        (λ g. by_test P right after (kept lend (refused WrongMemory s)) (λ l. then g l) (λ l. q))
        (λ g. p)

    -- a call that is lent the module's memory
    call_fair : (c : Call) → Goes (role_in c) (step_of s b.memory c)
    call_fair c = gate_fair (Goes (role_in c)) (is_lent_right s b.memory c) b.memory _ (declined (role_in c) Malformed) (declined (role_in c) WrongMemory) (λ g l. go c g l)
      where
        go : (c : Call) → formed s ≡ true → is_lent_right s b.memory c ≡ true → Goes (role_in c) (done_by (deed_of c) s b.memory)
        go (call.Pulses x n) g l = pulses_fair x n
        go (call.VetoLine on) g l = veto_fair on
        go call.Test g l = test_fair
        go call.ClearLine g l = ends_fair clears_all 0 _ refl
        go call.TriggerLine g l = deed_fair g (eqb-true _ _ l) (Trigger Line)
        go (call.Access a) g l = deed_fair g (eqb-true _ _ l) (deed_of (call.Access a))
        go call.ManClr g l = looks (Err NoMeaning)

    -- and one that is lent another memory: where it looks at it, 12 or 10 comes first
    another_fair : (lend : Memory) (c : Call) → has_length s lend ≡ false → Goes (role_in c) (record { outcome = (step_of s lend c).outcome; memory = b.memory })
    another_fair lend c d =
        gate_fair (λ r. Goes (role_in c) (record { outcome = r.outcome; memory = b.memory })) (is_lent_right s lend c) lend _
        (declined (role_in c) Malformed) (declined (role_in c) WrongMemory) (λ g l. go c l)
      where
        go : (c : Call) → is_lent_right s lend c ≡ true → Goes (role_in c) (record { outcome = (done_by (deed_of c) s lend).outcome; memory = b.memory })
        go (call.Pulses x n) l = pulses_fair x n
        go (call.VetoLine on) l = veto_fair on
        go call.Test l = test_fair
        go call.ClearLine l = ends_fair clears_all 0 _ refl
        go call.TriggerLine l = absurd (false≢true (sym d ∙ l))
        go (call.Access a) l = absurd (false≢true (sym d ∙ l))
        go call.ManClr l = looks (Err NoMeaning)

-- a call is a move that balances, whatever the memory that it is lent
pub made_balances : (k : ℕ) (b : Step) (m : Made) → Fits b.outcome.state → k < 32 → goes_on b m ≡ true → other b m ≡ true → Balanced k (stays k b m) b (move_of b m) (made b m)
made_balances k b (lending c) f h g o = call_fair k b f h c (not-true _ g)
made_balances k b (lending_another lend c) f h g o = another_fair k b f h lend c (not-true _ o) (not-true _ g)
