-- Two moves one after the other are a move, and it balances if both do; so the account of a list of calls, their
-- moves one after the other, balances. Assumes nothing.
use Prim.Native.Nat.{ℕ, ◌+◌, ◌<◌}
use mathlib.Core.Path.{◌≡◌, refl, sym, ◌∙◌}
use mathlib.Core.Bool.{Bool, true, ◌&&◌}
use mathlib.Core.List.{List, [], ◌∷◌, ◌++◌, append_assoc, append-nil}
use native.Mathlib.Nat.{add_assoc, add-zero, zero-add}
use Rattle.bus.proofs.Places.{left_of, right_of}
use Rattle.layout.specs.Layout.{event_words}
use Rattle.v830.specs.declared.V830.{V830}
use Rattle.v830.specs.Outcomes.{Step}
use Rattle.v830.specs.Account.{Made, made, Block, Move, no_move, and_then, account_of, stored_in, words_of, AllRead, counts_in, live, modulus, Fits, Balanced, goes_on, other, stays, each}
use Rattle.v830.proofs.Fairness.{made_balances}
use Rattle.v830.proofs.Modular.{glue_mod}

-- the words and the counts of two lists of events
pub words_append : (es fs : List Block) → words_of (es ++ fs) ≡ words_of es ++ words_of fs
unfolding words_of
words_append [] fs = refl
words_append (e ∷ es) fs = rw (words_append es fs) (sym (append_assoc (event_words e.layout e.event) (words_of es) (words_of fs)))

counts_append : (k : ℕ) (es fs : List Block) → counts_in k (es ++ fs) ≡ counts_in k es + counts_in k fs
unfolding counts_in
counts_append k [] fs = sym (zero-add (counts_in k fs))
counts_append k (e ∷ es) fs = rw (counts_append k es fs) (sym (add_assoc _ (counts_in k es) (counts_in k fs)))

read_append : (es fs : List Block) → AllRead es → AllRead fs → AllRead (es ++ fs)
unfolding AllRead
read_append [] fs p q = q
read_append (e ∷ es) fs p q = (p.0, read_append es fs p.1 q)

-- one move and the next: q, o and e are what is stored, handed out and accepted
glue : (q e es o q' h l : List ℕ) → q ++ e ≡ o ++ q' → q' ++ es ≡ h ++ l → q ++ (e ++ es) ≡ (o ++ h) ++ l
glue q e es o q' h l d r = cc (append_assoc q e es, append_assoc o q' es, append_assoc o h l)

module _ (k : ℕ) where
  -- no move balances where nothing changes
  pub balances_none : (b : Step) → Fits b.outcome.state → Balanced k true b no_move b
  unfolding words_of counts_in AllRead
  balances_none b f = record { words = append-nil (stored_in b); counts = λ on reset. rw (zero-add, add-zero); read = tt; control = refl; fits = f }

  -- two moves in a row are a move
  pub balances_then : {on off : Bool} {b c d : Step} {m n : Move} → Balanced k on b m c → Balanced k off c n d → Balanced k (on && off) b (and_then m n) d
  balances_then {on = on} {off = off} {b = b} {c = c} {d = d} {m = m} {n = n} p q =
      let s : V830 = b.outcome.state in
      let t : V830 = c.outcome.state in
      let u : V830 = d.outcome.state in
      record {
        words = rw (words_append m.accepted n.accepted) (glue (stored_in b) (words_of m.accepted) (words_of n.accepted) m.handed (stored_in c) n.handed (stored_in d) p.words q.words);
        counts = λ both reset.
            let then = rw p.control at (q.counts (right_of on off both) (rw p.control reset)) in
            rw (counts_append k m.accepted n.accepted)
            (glue_mod (modulus s) (counts_in k m.accepted) (counts_in k n.accepted) (live k s) (live k t) (live k u) (m.pulses k) (n.pulses k) (p.counts (left_of on off both) reset) then);
        read = read_append m.accepted n.accepted p.read q.read;
        control = q.control ∙ p.control;
        fits = q.fits;
      }

  -- the account of a list of calls balances
  pub account_balances : (ms : List Made) (b : Step) → k < 32 → Fits b.outcome.state → each goes_on ms b ≡ true → each other ms b ≡ true
      → Balanced k (each (stays k) ms b) b (account_of ms b).move (account_of ms b).last
  unfolding account_of each
  account_balances [] b h f g o = balances_none b f
  account_balances (m ∷ ms) b h f g o =
      let y = made_balances k b m f h (left_of (goes_on b m) _ g) (left_of (other b m) _ o) in
      balances_then y (account_balances ms (made b m) h y.fits (right_of (goes_on b m) _ g) (right_of (other b m) _ o))
