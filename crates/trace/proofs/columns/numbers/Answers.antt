-- The rows fill the line behind the entry's number. Assumes nothing.
use Rattle.std.proofs.Common.{◌≡◌, ◌-◌, ◌≤◌, length, replicate, arith, rules}
use Rattle.std.proofs.lemmas.List.{length-replicate}
use Rattle.trace.proofs.Filled.{filled, begun}
use Rattle.trace.proofs.columns.numbers.Goals as goal

pub returns : goal.returns
returns g c =
    let a = c.args in
    let w : length a.first ≡ g.row.W = search rules in
    let o : length a.own ≡ g.row.O = search rules in
    let n : length a.counts ≡ g.row.C = search rules in
    let l : length a.latches ≡ g.row.L = search rules in
    let some : 1 ≤ g.row.N = omega (arith, c.requires) in
    filled a.entry g.row.N a.first a.own a.counts a.latches _ _ _ _ _ _ _ _ (replicate (g.row.N - 1) 0)
    (rw length-replicate (omega (arith, c.requires, w, o, n, l)))
    (rw (← begun a.entry g.row.N some) c.put_words-at.ensures)
    c.put_words-at-2.ensures c.put_words-at-3.ensures c.put_words.ensures
