-- The event length as the code has it, when an event has words, and a quotient with a rest, which is below what was
-- divided. Assumes nothing.
use mathlib.Core.Path.{◌≡◌, sym, ap}
use mathlib.Core.Bool.{Bool, true, false, cond, not, ◌||◌}
use Prim.Native.Nat.{ℕ, zero, suc, ◌+◌, ◌-◌, ◌^◌, ◌≤◌, ◌<◌}
use native.Mathlib.Omega.{arith}
use borrow.Author.Tests.{ne_eqb, lt-ltb, le-ltb}
use lib.ListN.{length, take, drop, length-drop}
use mathlib.Core.List.{List}
use Rattle.std.proofs.lemmas.Grind.{common_steps}
use lib.Count.{ones_in}
use lib.Dec.{eqb, ltb}
use Rattle.layout.specs.declared.Settings.{Settings}
use Rattle.layout.specs.declared.Words.{Words}
use Rattle.layout.specs.Length.{words, event_length, header_length, enabled_channels}
use Rattle.layout.proofs.Enabled.{length_enabled, ones_of_zero, only_zero}

-- the test whether a length is 0, of the definitions' form
pub none : (n : ℕ) → n ≡ 0 → ltb 0 n ≡ false
none n e = le-ltb 0 n (omega arith)

pub some : (n : ℕ) → (n ≡ 0 → ⊥) → ltb 0 n ≡ true
some n s = lt-ltb 0 n (omega (arith, s))

pub length_of : (st : Settings) {w : Words} → w ≡ words (event_length st) → event_length st ≡ w.0
length_of st e = sym (ap (λ (v : Words). v.0) e)

-- an event has words where a channel is enabled or there is a header
pub has_words : (st : Settings) → st.enable < 2 ^ 32 → not (eqb (event_length st) 0) ≡ not (eqb st.enable 0) || st.header
has_words st h = go st.enable st.header h
  where
    go : (x : ℕ) (header : Bool) → x < 2 ^ 32 → not (eqb (ones_in 32 x + cond header 1 0) 0) ≡ not (eqb x 0) || header
    go zero true h = rw (ones_of_zero 32)
    go zero false h = rw (ones_of_zero 32)
    go (suc x) header h =
        let some : ones_in 32 (suc x) ≡ 0 → ⊥ = λ e. absurd (omega (arith, only_zero 32 (suc x) h e)) in
        rw (ne_eqb (ones_in 32 (suc x) + cond header 1 0) 0 (omega (arith, some)), ne_eqb (suc x) 0 (omega arith))

-- the words behind the header, as the code takes them
pub behind_place : (ws : List ℕ) (at place : ℕ) → at ≡ place → take (length ws - at) (drop at ws) ≡ drop place ws
behind_place ws at place e = grind (arith, common_steps)

pub behind_header : (st : Settings) (ws : List ℕ) → event_length st ≤ length ws → length (enabled_channels st.enable) ≤ length (drop (header_length st) ws)
behind_header st ws h = omega (arith, length_enabled 32 0 st.enable, length-drop (header_length st) ws)
