-- T3, demand 3 of this bench:
--
--   "V830, random trigger, AUTO RESET, from the Control write that set this: the words handed out, then the words
--   still stored, are the words of the accepted triggers, in order, each once; an enabled channel's counts in those
--   events plus its live counter equal the pulses admitted to it, modulo 2^32 (2^26 short); a trigger is neglected
--   only for a reason in document 01 and takes no count with it."
--
-- Over every list of calls, stated of the definitions that the contracts are equations with. What its words mean
-- stands in specs/Account.antt and specs/Stretch.antt. Carried by Moves: two moves in a row are a move. Assumes
-- nothing.
use Prim.Native.Nat.{ℕ, ◌+◌, ◌%◌, ◌<◌}
use mathlib.Core.Path.{◌≡◌, refl, sym, ap, ◌∙◌}
use mathlib.Core.Bool.{true, false, false≢true}
use mathlib.Core.List.{List, [], ◌∷◌, ◌++◌}
use native.Mathlib.Nat.{zero-add}
use native.Mathlib.Omega.{arith}
use lib.Dec.{leb, ltb}
use lib.ListN.{length, get_or-replicate}
use lib.Seq.{drop_at}
use Rattle.bus.specs.declared.Access.{Access}
use Rattle.bus.specs.declared.Refusal.TheVariants.{Malformed, WrongMemory, NotRandom, NoWords, TooFewFree}
use Rattle.bus.specs.Answers.{number_of, is_done}
use Rattle.bus.proofs.Choices.{by_test}
use Rattle.layout.specs.Layout.{event_words}
use Rattle.layout.specs.Length.{event_length}
use Rattle.layout.proofs.NoFurther.{reads_no_further}
use Rattle.layout.proofs.Written.{words_length}
use Rattle.meb.specs.Ring.{Memory}
use Rattle.meb.specs.Stores.{free}
use Rattle.meb.proofs.RingLaws.{stored_none}
use Rattle.std.specs.Prelude.{Some}
use Rattle.v830.specs.declared.state.Mode.TheVariants.{Random}
use Rattle.v830.specs.declared.Call.TheVariants as call
use Rattle.v830.specs.declared.deeds.Source.{Source}
use Rattle.v830.specs.declared.V830.{V830}
use Rattle.v830.specs.State.{mode, is_random, settings, formed}
use Rattle.v830.specs.Outcomes.{Step, kept, refused}
use Rattle.v830.specs.Trigger.{accepted, triggered}
use Rattle.v830.specs.Calls.{has_length, gated}
use Rattle.v830.specs.Account.{Made, made, lending, lending_another, call_of, lent_to, triggers_by, role_in, Block, Account, account_of, words_of, AllRead, ReadsOn, counts_in, live, modulus, stored_in, Fits, stays, each}
use Rattle.v830.specs.Stretch.{begun, Stretch, Reason, wrong_memory, no_words, too_few_free}
use Rattle.v830.proofs.Moves.{account_balances}
use Rattle.v830.proofs.Numbering.{v830_refused_same}
use Rattle.v830.proofs.Roles.{Restarted, done_formed, write_restarts, trigger_is}
use Rattle.v830.proofs.Staying.{formed_stays}

-- the events that the reader reads each from its words it reads one after the other from the words of all
reads_on : (es : List Block) → AllRead es → ReadsOn es (words_of es)
unfolding words_of AllRead ReadsOn
reads_on [] r = refl
reads_on (e ∷ es) r =
    let ws : List ℕ = event_words e.layout e.event in
    let n : length ws ≡ event_length e.layout = words_length e.layout e.event in
    (reads_no_further e.layout ws (words_of es) n ∙ r.0, rw (drop_at ws (words_of es) (event_length e.layout) n) (reads_on es r.1))

-- a record that is not malformed stays so over every list of calls
formed_run : (ms : List Made) (b : Step) → formed b.outcome.state ≡ true → formed (account_of ms b).last.outcome.state ≡ true
unfolding account_of
formed_run [] b h = h
formed_run (lending c ∷ ms) b h = formed_run ms _ (formed_stays b.outcome.state b.memory c h)
formed_run (lending_another other c ∷ ms) b h = formed_run ms _ (formed_stays b.outcome.state other c h)

-- a trigger of a module in random mode that is not malformed has its reason where it is refused
module _ (s : V830) (memory : Memory) (g : formed s ≡ true) (m : mode s.control ≡ Some Random) where
  abbrev Reasoned : Step → Type 0
  Reasoned r = is_done r.outcome.answer ≡ false → Reason s memory (number_of r.outcome.answer)

  trigger_reasoned : (by : Source) → Reasoned (gated (has_length s memory) s memory (triggered by s memory))
  trigger_reasoned by =
      by_test Reasoned (formed s) _ (kept memory (refused Malformed s))
      (λ f. by_test Reasoned (has_length s memory) _ (kept memory (refused WrongMemory s))
      (λ l. by_test Reasoned (is_random (mode s.control)) _ (kept memory (refused NotRandom s))
      (λ r. by_test Reasoned (ltb 0 (event_length (settings s))) _ (kept memory (refused NoWords s))
      (λ w. by_test Reasoned (leb (event_length (settings s)) (free s.store).0) (accepted by s memory) (kept memory (refused TooFewFree s))
      (λ r e. absurd (false≢true (sym e)))
      (λ r e. too_few_free r))
      (λ w e. no_words w))
      (λ r e. absurd (false≢true (sym r ∙ ap is_random m))))
      (λ l e. wrong_memory l))
      (λ f e. absurd (false≢true (sym f ∙ g)))

module _ (before : V830) (memory : Memory) (write : Access) (calls : List Made) (st : Stretch before memory write calls) where
  -- what the Control write leaves, and the account from there on
  abbrev b : Step
  b = begun before memory write

  abbrev t : Account
  t = account_of calls b

  from : Restarted before b.outcome.state
  from = write_restarts before memory (call.Access write) st.control st.not_refused

  fits_then : Fits b.outcome.state
  fits_then = record { enable = rw from.enable st.fits.enable; channels = rw from.counts }

  -- "the words handed out, then the words still stored, are the words of the accepted triggers, in order, each once"
  pub words_once :
      let t : Account = account_of calls (begun before memory write) in
      t.move.handed ++ stored_in t.last ≡ words_of t.move.accepted
  words_once =
      let none : stored_in b ≡ [] = rw from.stored (stored_none _ b.memory.words _) in
      sym (account_balances 0 calls b (omega arith) fits_then st.goes st.others).words ∙ ap (λ (ws : List ℕ). ws ++ words_of t.move.accepted) none

  -- "those events": the block reader reads them from those words, from the first on, one after the other
  pub events_read_lem :
      let t : Account = account_of calls (begun before memory write) in
      ReadsOn t.move.accepted (t.move.handed ++ stored_in t.last)
  events_read_lem = rw words_once (reads_on t.move.accepted (account_balances 0 calls b (omega arith) fits_then st.goes st.others).read)

  -- "an enabled channel's counts in those events plus its live counter equal the pulses admitted to it, modulo 2^32
  -- (2^26 short)"
  pub counts_balance : (k : ℕ) → k < 32 → each (stays k) calls (begun before memory write) ≡ true
      → let t : Account = account_of calls (begun before memory write) in
      (counts_in k t.move.accepted + live k t.last.outcome.state) % modulus (begun before memory write).outcome.state
      ≡ t.move.pulses k % modulus (begun before memory write).outcome.state
  counts_balance k h on =
      let none : live k b.outcome.state ≡ 0 = rw from.counts (get_or-replicate {A = ℕ} 32 k 0 0 h) in
      rw (none, zero-add) at ((account_balances k calls b h fits_then st.goes st.others).counts on st.auto_reset)

  -- a trigger that comes next is neglected only for 8 or 9, or for 10 where it is lent another memory, and changes
  -- nothing: "takes no count with it"
  pub neglected : (m : Made) (by : Source) → role_in (call_of m) ≡ triggers_by by
      → let t : Account = account_of calls (begun before memory write) in
      is_done (made t.last m).outcome.answer ≡ false
      → Reason t.last.outcome.state (lent_to t.last m) (number_of (made t.last m).outcome.answer)
      × ((made t.last m).outcome.state ≡ t.last.outcome.state) × ((made t.last m).memory ≡ t.last.memory)
  neglected m by e d = go m e d
    where
      s : V830
      s = t.last.outcome.state

      well : formed s ≡ true
      well = formed_run calls b (formed_stays before memory (call.Access write) (done_formed before memory (call.Access write) st.not_refused))

      random : mode s.control ≡ Some Random
      random = ap mode (account_balances 0 calls b (omega arith) fits_then st.goes st.others).control ∙ st.random

      go : (m : Made) → role_in (call_of m) ≡ triggers_by by → is_done (made t.last m).outcome.answer ≡ false
          → Reason s (lent_to t.last m) (number_of (made t.last m).outcome.answer) × ((made t.last m).outcome.state ≡ s) × ((made t.last m).memory ≡ t.last.memory)
      go (lending c) e d =
          let same = v830_refused_same s t.last.memory c d in
          let is = trigger_is s t.last.memory c by e in
          (rw is (trigger_reasoned s t.last.memory well random by (rw is at d)), same.0, same.1)
      go (lending_another other c) e d =
          let same = v830_refused_same s other c d in
          let is = trigger_is s other c by e in
          (rw is (trigger_reasoned s other well random by (rw is at d)), same.0, refl)
