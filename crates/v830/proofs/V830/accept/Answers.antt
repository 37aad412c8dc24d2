-- The words are put behind those stored; their number is the event length. Assumes nothing.
use Prim.Native.Nat.{ℕ, ◌^◌, ◌≤◌, ◌<◌}
use mathlib.Core.Path.{◌≡◌, sym}
use native.Mathlib.Omega.{arith}
use lib.Seq.{length-take-le}
use Rattle.layout.specs.declared.Settings.{Settings}
use Rattle.layout.specs.Length.{event_length}
use Rattle.layout.proofs.Lengths.{length_of}
use Rattle.v830.specs.State.{settings}
use Rattle.v830.proofs.Taking.{longest}
use borrow.Author.Rules.{rules}
use Rattle.v830.proofs.V830.accept.Goals as goal

-- the event length as the code has it is at most 33
event_fits : (s : Settings) (n : ℕ) → s.enable < 2 ^ 32 → event_length s ≡ n → n ≤ 33
event_fits s n h e = omega (arith, e, longest s h)

pub slice_bounds-words-end : goal.slice_bounds-words-end
slice_bounds-words-end c =
    let e = length_of (settings c.args.self) (rw c.settings.ensures at c.event_length-event.ensures) in
    omega (arith, event_fits (settings c.args.self) _ (search rules) e)

pub slice_bounds-put-end : goal.slice_bounds-put-end
slice_bounds-put-end c =
    let e = length_of (settings c.args.self) (rw c.settings.ensures at c.event_length-event.ensures) in
    let f = event_fits (settings c.args.self) _ (search rules) e in
    sym (length-take-le c.event_length-event.result.0 c.words_of-words.result (omega (arith, f)))
