-- The digits with what is left of the word, the blank and the two numbers behind it are the line. Assumes nothing.
use Rattle.std.proofs.Common.{ℕ, ◌-◌, ◌*◌, ◌%◌, ◌^◌, sym, ap, ◌∙◌, rules, leb-true}
use borrow.Author.Tests.{not-false}
use mathlib.Core.Bool.{not}
use Rattle.text.specs.Text.{put}
use Rattle.night.specs.Tallies.{bytes_of}
use Rattle.night.proofs.Tallying.{entry_put}
use Rattle.night.proofs.tally.Tally.put_longer.Goals as goal

pub returns : goal.returns
returns c =
    let a = c.args in
    let t = a.self in
    let h = leb-true _ _ (sym c.fits.ensures ∙ not-false _ (ap not c.if-not-fits.false)) in
    entry_put a.out.now a.at t.number a.answer a.value h t.figures t.right.1 c.requires (search rules) _ _ _ _ _
    (c.put_word.ensures ∙ ap (λ (x : ℕ). put a.out.now a.at (bytes_of 8 (x * 2 ^ (64 - 8 * t.figures) % 2 ^ 64))) t.right.0)
    c.put_text-blank.ensures.0 c.put_text-blank.ensures.1 c.put_line-2.ensures.0 c.put_line-2.ensures.1
