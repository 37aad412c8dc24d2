-- The event of a well-formed module can be written (`event_writable`), and 33 words are enough (`longest`). Assumes
-- nothing.
use mathlib.Core.Path.{◌≡◌, ◌∙◌, ap}
use mathlib.Core.List.{List}
use Prim.Native.Nat.{ℕ}
use lib.ListN.{replicate, take, drop}
use lib.Seq.{take_at}
use native.Mathlib.Omega.{arith}
use Rattle.layout.specs.Length.{event_length}
use Rattle.layout.specs.Layout.{event_words}
use Rattle.layout.proofs.Written.{words_length, write_leaves}
use Rattle.v830.specs.State.{settings}
use Rattle.v830.specs.Trigger.{event_of}
use Rattle.v830.proofs.Forming.{formed_facts}
use Rattle.v830.proofs.Taking.{event_writable, longest}
use borrow.Author.Rules.{rules}
use Rattle.v830.proofs.V830.words_of.Goals as goal

pub returns : goal.returns
returns c = let a = c.args in
    let p = c.requires in
    let st = settings a.self in
    let ev = event_of a.by a.self in
    let lent : List ℕ = replicate 33 0 in
    let some : event_length st ≡ 0 → ⊥ = λ e. omega (arith, p.1, e) in
    let can = event_writable a.by a.self (formed_facts a.self p.0).0 in
    let room = longest st (search rules) in
    let left = rw (c.settings.ensures, c.event_of.ensures) at c.write_event.ensures.1 in
    ap (take (event_length st)) (left ∙ write_leaves st ev lent some can room) ∙ take_at (event_words st ev) (drop (event_length st) lent) (event_length st) (words_length st ev)
