-- What an event that can be written, and has room, leaves in the lent words. Assumes nothing.
use mathlib.Core.Path.{◌≡◌, ap, ◌∙◌}
use mathlib.Core.Bool.{Bool, true, false, cond}
use mathlib.Core.List.{List, ◌∷◌, ◌++◌}
use Prim.Native.Nat.{ℕ, ◌+◌, ◌≤◌}
use native.Mathlib.Nat.{zero-add}
use native.Mathlib.Omega.{arith}
use borrow.Author.Tests.{le-leb}
use lib.Count.{ones_in}
use lib.ListN.{length, get_or, drop, length-map}
use lib.Seq.{sets, sets-eq}
use Rattle.layout.specs.declared.Event.{Event}
use Rattle.layout.specs.declared.Settings.{Settings}
use Rattle.layout.specs.Layout.{header_of, datum_of, event_words}
use Rattle.layout.specs.Length.{event_length, enabled_channels}
use Rattle.layout.specs.Numbers.{gives_length}
use Rattle.layout.specs.Writer.{writable, write_answer, write_words}
use Rattle.layout.proofs.Enabled.{length_enabled}
use Rattle.layout.proofs.Lengths.{some}

-- an event has as many words as its length says
pub words_length : (st : Settings) (ev : Event) → length (event_words st ev) ≡ event_length st
words_length st ev = go st.header _ (length-map (enabled_channels st.enable) (λ k. datum_of st.short k (get_or ev.counts k 0)) ∙ length_enabled 32 0 st.enable)
  where
    go : (t : Bool) (body : List ℕ) → length body ≡ ones_in 32 st.enable → length (cond t (header_of st ev ∷ body) body) ≡ ones_in 32 st.enable + cond t 1 0
    go true body n = omega arith
    go false body n = omega arith

-- stored from place 0 on they are in front of the words that stay
pub stored_words_lem : (st : Settings) (ev : Event) (lent : List ℕ) → event_length st ≤ length lent
    → sets lent 0 (event_words st ev) ≡ event_words st ev ++ drop (event_length st) lent
stored_words_lem st ev lent r =
    let n : length (event_words st ev) ≡ event_length st = words_length st ev in
    sets-eq (event_words st ev) lent 0 (omega (arith, n)) ∙ ap (λ (k : ℕ). event_words st ev ++ drop k lent) (zero-add _ ∙ n)

module _ (st : Settings) (ev : Event) (lent : List ℕ) (s : event_length st ≡ 0 → ⊥) (w : writable st ev ≡ true) (r : event_length st ≤ length lent) where
  pub write_answers : write_answer st ev lent ≡ gives_length st
  unfolding write_answer
  write_answers = rw (some _ s, w, le-leb _ _ r)

  pub write_leaves : write_words st ev lent ≡ event_words st ev ++ drop (event_length st) lent
  unfolding write_words
  write_leaves = rw (write_answers)
