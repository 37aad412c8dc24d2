-- The word and the line, one behind the other, are the whole. Assumes nothing.
use Rattle.std.proofs.Common.{◌≡◌, ℕ, ◌+◌, ◌*◌, ◌≤◌, List, length, sym, ap₂, ◌∙◌, arith, length-append}
use borrow.Author.Tests.{leb-true}
use Rattle.text.specs.Line.{line}
use Rattle.text.specs.Text.{put}
use Rattle.text.proofs.Decimal.{length_line}
use Rattle.text.proofs.Putting.{after_fits, put_more}
use Rattle.text.proofs.lines.put_worded.Goals as goal

pub line_here-requires : goal.line_here-requires
line_here-requires c =
    let a = c.args in
    let h : a.at + a.room ≤ length a.out.now = leb-true _ _ (sym c.fits.ensures ∙ c.if-not-fits.false) in
    let p = c.put_text-p.ensures.0 ∙ after_fits a.out.now a.at a.word.now (omega arith) in
    omega (arith, p, c.put_text-p.auto.out)

pub returns : goal.returns
returns c =
    let a = c.args in
    let e = sym c.fits.ensures ∙ c.if-not-fits.false in
    let h : a.at + a.room ≤ length a.out.now = leb-true _ _ e in
    let rest : List ℕ = line a.numbers.now in
    let n : length rest ≤ 21 * length a.numbers.now = length_line a.numbers.now in
    let p : c.put_text-p.result ≡ a.at + length a.word.now = c.put_text-p.ensures.0 ∙ after_fits a.out.now a.at a.word.now (omega arith) in
    rw e (
      c.line_here.ensures.0 ∙ omega (arith, p, length-append a.word.now rest),
      c.line_here.ensures.1
          ∙ ap₂ (λ (o : List ℕ) (k : ℕ). put o k rest) c.put_text-p.ensures.1 p
          ∙ put_more a.out.now a.at a.word.now rest (omega (arith, length-append a.word.now rest)),
    )
