use Rattle.std.proofs.Common.{◌≡◌, ℕ, ◌+◌, List, [], ◌∷◌, ◌++◌, get_or, drop, sym, ap, subst, ◌∙◌, arith}
use Rattle.text.specs.Line.{line}
use Rattle.text.specs.Text.{decimal}
use Rattle.text.proofs.Decimal.{length_line}
use Rattle.text.proofs.Pieces.{Leaves, start, piece, end_place, end_whole, mark_left, line_cons}
use lib.ListN.{drop_of_length-le}
use Rattle.text.proofs.lines.line_here.Goals as goal

pub loop-i-init : goal.loop-i-init
loop-i-init c = let a = c.args in start (line a.numbers.now) a.out.now a.at (omega (arith, length_line a.numbers.now))

pub loop-i-preserved : goal.loop-i-preserved
loop-i-preserved c = let l = c.loop-i in
    let a = c.args in
    let ns = a.numbers.now in
    let rest : List ℕ = line (drop (l.i + 1) ns) in
    let e : line (drop l.i ns) ≡ decimal (get_or ns l.i 0) ++ c.mark.result ∷ rest =
    line_cons ns l.i (omega arith) ∙ ap (λ (k : ℕ). decimal (get_or ns l.i 0) ++ k ∷ rest) (sym (c.mark.ensures ∙ mark_left ns l.i)) in
    let before : Leaves (line ns) a.out.now a.at l.out l.p (decimal (get_or ns l.i 0) ++ c.mark.result ∷ rest) =
    subst (λ (todo : List ℕ). Leaves (line ns) a.out.now a.at l.out l.p todo) e l.invariant in
    piece (c.mark.result ∷ []) rest _ _
    (piece (decimal (get_or ns l.i 0)) (c.mark.result ∷ rest) _ _ before c.put_number-p.ensures.0 c.put_number-p.ensures.1)
    c.put_text-p.ensures.0 c.put_text-p.ensures.1

pub returns : goal.returns
unfolding line
returns c = let l = c.loop-i in
    let a = c.args in
    let ns = a.numbers.now in
    let e : drop l.i ns ≡ [] = drop_of_length-le ns {i = l.i} (omega arith) in
    let done : Leaves (line ns) a.out.now a.at l.out l.p [] =
    subst (λ (left : List ℕ). Leaves (line ns) a.out.now a.at l.out l.p (line left)) e l.invariant in
    (end_place done, end_whole done)
