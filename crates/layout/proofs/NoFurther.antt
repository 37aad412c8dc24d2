-- The reader looks at no word after the event: whatever stands behind as many words as an event has, the reading is
-- the same. Assumes nothing.
use mathlib.Core.Path.{◌≡◌, refl, sym}
use mathlib.Core.Bool.{Bool, true, false}
use mathlib.Core.List.{List, [], ◌∷◌, ◌++◌}
use Prim.Native.Nat.{ℕ, ◌≤◌}
use native.Mathlib.Omega.{arith}
use borrow.Author.Tests.{le-leb}
use lib.Count.{ones_in}
use lib.ListN.{length, set, drop, replicate, length-append, length-drop}
use lib.Seq.{drop-append-le}
use Rattle.std.specs.Prelude.{Result}
use Rattle.layout.specs.declared.Refusal.{Refusal}
use Rattle.layout.specs.declared.Words.{Words}
use Rattle.layout.specs.declared.Settings.{Settings}
use Rattle.layout.specs.Length.{event_length, header_length, enabled_channels}
use Rattle.layout.specs.Numbers.{gives_length}
use Rattle.layout.specs.Reader.{data_answer, body_answer, read_answer, count_in, counts_read, event_in, read_of}
use Rattle.layout.proofs.Enabled.{length_enabled}
use Rattle.layout.proofs.Halves.{settings}
use Rattle.layout.proofs.Lengths.{none, some}

data_no_further : (ks ws rest : List ℕ) (a : Result Words Refusal) → length ks ≤ length ws → data_answer ks (ws ++ rest) a ≡ data_answer ks ws a
unfolding data_answer
data_no_further [] ws rest a l = refl
data_no_further (k ∷ ks) [] rest a l = absurd (omega arith)
data_no_further (k ∷ ks) (w ∷ ws) rest a l = rw (data_no_further ks ws rest a (omega arith))

counts_no_further : (short : Bool) (ks ws rest cs : List ℕ) → length ks ≤ length ws → counts_read short ks (ws ++ rest) cs ≡ counts_read short ks ws cs
unfolding counts_read
counts_no_further short [] ws rest cs l = refl
counts_no_further short (k ∷ ks) [] rest cs l = absurd (omega arith)
counts_no_further short (k ∷ ks) (w ∷ ws) rest cs l = counts_no_further short ks ws rest (set cs k (count_in short w)) (omega arith)

module _ (short : Bool) (x : ℕ) (rest : List ℕ) where
  n : length (enabled_channels x) ≡ ones_in 32 x
  n = length_enabled 32 0 x

  -- there is a word behind the header for each channel
  behind : (header : Bool) (ws : List ℕ) → length ws ≡ event_length (settings header short x) → length (enabled_channels x) ≤ length (drop (header_length (settings header short x)) ws)
  behind header ws e = rw length-drop (omega (arith, n))

  body_no_further : (header : Bool) (ws : List ℕ) → length ws ≡ event_length (settings header short x)
      → body_answer (settings header short x) (ws ++ rest) ≡ body_answer (settings header short x) ws
  unfolding body_answer
  body_no_further header ws e =
      rw (
        le-leb (event_length (settings header short x)) (length (ws ++ rest)) (omega (arith, length-append ws rest)),
        le-leb (event_length (settings header short x)) (length ws) (omega arith),
        drop-append-le (header_length (settings header short x)) ws rest (omega arith),
        data_no_further (enabled_channels x) (drop (header_length (settings header short x)) ws) rest (gives_length (settings header short x)) (behind header ws e),
      )

  answer_no_further : (header : Bool) (ws : List ℕ) → length ws ≡ event_length (settings header short x)
      → read_answer (settings header short x) (ws ++ rest) ≡ read_answer (settings header short x) ws
  unfolding read_answer
  answer_no_further header [] e = rw (none (event_length (settings header short x)) (sym e))
  answer_no_further header (w ∷ us) e =
      rw (some (length (w ∷ us ++ rest)) (λ z. omega arith), some (length (w ∷ us)) (λ z. omega arith), body_no_further header (w ∷ us) e)

  event_no_further : (header : Bool) (ws : List ℕ) → length ws ≡ event_length (settings header short x)
      → event_in (settings header short x) (ws ++ rest) ≡ event_in (settings header short x) ws
  unfolding event_in
  event_no_further true [] e = absurd (omega arith)
  event_no_further true (h ∷ us) e = rw (counts_no_further short (enabled_channels x) us rest (replicate 32 0) (omega (arith, n)))
  event_no_further false ws e = rw (counts_no_further short (enabled_channels x) ws rest (replicate 32 0) (omega (arith, n)))

-- ---- the theorem
pub reads_no_further : (st : Settings) (ws rest : List ℕ) → length ws ≡ event_length st → read_of st (ws ++ rest) ≡ read_of st ws
unfolding read_of
reads_no_further st ws rest e =
    rw (answer_no_further st.short st.enable rest st.header ws e, event_no_further st.short st.enable rest st.header ws e)
