-- A replay's listing does not depend on the words that the memory held at first: of one night, on two memories that
-- store the same words, the lines are the same. Carried by the V830's law of the same (v830/proofs/Blind.antt), entry
-- by entry. Assumes nothing.
use Rattle.std.proofs.Common.{◌≡◌, ℕ, zero, suc, ◌+◌, ◌%◌, ◌^◌, Bool, true, List, ◌∷◌, length, drop, sym, refl, ap, ◌∙◌, ap₂}
use lib.ListN.{length-replicate}
use Rattle.benchlog.specs.declared.Entry.{Entry}
use Rattle.benchlog.specs.declared.Reading.{Reading}
use Rattle.benchlog.specs.declared.Refused as refusal
use Rattle.std.specs.Prelude.{Result, Ok, Err}
use Rattle.benchlog.specs.Entries.{entry_at}
use Rattle.std.specs.Prelude.{Ok}
use Rattle.bus.specs.Answers.{number_of, value_of}
use Rattle.logged.specs.Entries.{call830_of}
use Rattle.meb.specs.Ring.{Memory}
use Rattle.meb.specs.Stores.{stored_words, empty_of}
use Rattle.meb.proofs.RingLaws.{emptied_none}
use Rattle.v830.specs.declared.Outcome.{Outcome}
use Rattle.v830.specs.State.{formed, power_on}
use Rattle.v830.specs.Calls.{gate_of}
use Rattle.v830.proofs.Blind.{blind}
use Rattle.night.specs.declared.Night.{Night}
use Rattle.night.specs.Lines.{Line, Shown, begun_at, onward, stepped, taken_of, line_of}
use Rattle.night.specs.Runs.{Run, on_reading, run_of, lines_of, fresh_words}
use Rattle.night.proofs.Going.{stopped_lines}
use Rattle.night.proofs.Sound.{Sound, step_sound, sound_gate}

-- two memories of a night, which store the same words
record Alike (n : Night) (m k : Memory) : Type 0 where
  pub left : Sound n m
  pub right : Sound n k
  pub words : stored_words n.v830.store m ≡ stored_words n.v830.store k

module _ (n : Night) (m k : Memory) (a : Alike n m k) (e : Entry) (bytes : ℕ) where
  same : (stepped n m e).outcome ≡ (stepped n k e).outcome
  same = (blind n.v830 m k a.left.0 a.left.1 a.right.1 a.words (call830_of e)).0

  -- an entry makes one night of both, its line is the same, and the memories stay so
  one_night : onward n m e bytes ≡ onward n k e bytes
  one_night = ap (λ (o : Outcome). record { v830 = o.state; entries = (n.entries + 1) % 2 ^ 64; place = (n.place + bytes) % 2 ^ 64 }) same

  one_line : line_of (taken_of n m e bytes) ≡ line_of (taken_of n k e bytes)
  one_line = ap (λ (o : Outcome). Shown ((n.entries + 1) % 2 ^ 64) (number_of o.answer) (value_of o.answer)) same

  stays_alike : Alike (onward n m e bytes) (stepped n m e).memory (stepped n k e).memory
  stays_alike =
      let l = step_sound n m e bytes a.left in
      let r = step_sound n k e bytes a.right in
      record {
        left = l;
        right = (l.0, r.1 ∙ sym (ap (λ (o : Outcome). o.state.store.capacity.0) same));
        words = (blind n.v830 m k a.left.0 a.left.1 a.right.1 a.words (call830_of e)).1;
      }

-- one entry, where the lines behind it are the same, or none
reading_alike : (last : Bool) (bytes : List ℕ) (n : Night) (m k : Memory) → Alike n m k → (f : Night → Memory → List ℕ → Run)
    → ((n₁ : Night) (m₁ k₁ : Memory) (b : List ℕ) → Alike n₁ m₁ k₁ → (f n₁ m₁ b).lines ≡ (f n₁ k₁ b).lines)
    → (x : Result Reading refusal.Refused) → (on_reading last bytes n m x f).lines ≡ (on_reading last bytes n k x f).lines
reading_alike last bytes n m k a f go (Ok q) =
    let m₁ : Memory = (stepped n m q.entry).memory in
    let k₁ : Memory = (stepped n k q.entry).memory in
    ap₂ (λ (l : Line) (ls : List Line). l ∷ ls) (one_line n m k a q.entry q.next)
    (go (onward n m q.entry q.next) m₁ k₁ (drop q.next bytes) (stays_alike n m k a q.entry q.next) ∙ ap (λ (x : Night). (f x k₁ (drop q.next bytes)).lines) (one_night n m k a q.entry q.next))
reading_alike last bytes n m k a f go (Err q) = stopped_lines last bytes q.fault n m k

run_alike : (most : ℕ) (last : Bool) (bytes : List ℕ) (n : Night) (m k : Memory) → Alike n m k
    → (run_of most last bytes n m).lines ≡ (run_of most last bytes n k).lines
unfolding run_of
run_alike zero last bytes n m k a = refl
run_alike (suc most) last bytes n m k a =
    reading_alike last bytes n m k a (λ n₁ m₁ b. run_of most last b n₁ m₁) (λ n₁ m₁ k₁ b h. run_alike most last b n₁ m₁ k₁ h) (entry_at bytes 0)

-- ---- a night that begins
abbrev fresh : Night
fresh = record { v830 = power_on 0 0 16384; entries = 0; place = 0 }

module _ (m : Memory) (e : length m.words ≡ 16384) where
  begun_fresh : begun_at m ≡ fresh
  begun_fresh = rw e

  fresh_sound : Sound fresh m
  unfolding formed
  fresh_sound = (refl, e)

  -- the gate lets it pass
  pub begun_passes : gate_of (begun_at m).v830 m ≡ Ok 0
  begun_passes = ap (λ (n : Night). gate_of n.v830 m) begun_fresh ∙ sound_gate fresh m fresh_sound

-- ---- the theorem
pub listing_blind : (m : Memory) → length m.words ≡ 16384 → (log : List ℕ) → lines_of log (begun_at m) m ≡ lines_of log (begun_at fresh_words) fresh_words
listing_blind m e log =
    let l : length fresh_words.words ≡ 16384 = length-replicate {A = ℕ} 16384 0 in
    let a : Alike fresh m fresh_words =
    record { left = fresh_sound m e; right = fresh_sound fresh_words l; words = emptied_none (empty_of 16384) m ∙ sym (emptied_none (empty_of 16384) fresh_words) } in
    ap (λ (n : Night). lines_of log n m) (begun_fresh m e) ∙ run_alike (suc (length log)) true log fresh m fresh_words a
    ∙ ap (λ (n : Night). lines_of log n fresh_words) (sym (begun_fresh fresh_words l))
