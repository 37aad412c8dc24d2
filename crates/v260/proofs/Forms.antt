-- The V260 stays well formed (document 01, 12: "a count above its width", "level above 7"): what Formed asks of its
-- own calls; the theorems follow. And a start that is refused. Assumes nothing.
use Prim.Native.Nat.{ℕ, zero, suc, ◌^◌, ◌≤◌, ◌<◌}
use mathlib.Core.Path.{◌≡◌, refl}
use mathlib.Core.Bool.{Bool, true, cond, ◌&&◌}
use mathlib.Core.List.{List, [], ◌∷◌, map}
use native.Mathlib.Omega.{arith}
use native.Mathlib.Decide.{dec_lt}
use borrow.Author.Tests.{lt-ltb, le-ltb, lt-leb, le-leb}
use lib.Dec.{eqb, ltb}
use lib.ListN.{get_or, set, replicate}
use Rattle.count.specs.Counter.{next, carries}
use Rattle.bus.specs.declared.Access.{Access}
use Rattle.bus.specs.declared.Refusal.TheVariants.{NoMeaning}
use Rattle.bus.specs.declared.interrupter.Interrupter.{Interrupter}
use Rattle.bus.specs.Answers.{number_of}
use Rattle.bus.specs.Interrupting.{well_formed}
use Rattle.bus.specs.Table.{look_up}
use Rattle.bus.proofs.Choices.{either_way}
use Rattle.bus.proofs.Numbers.{each_row}
use Rattle.bus.proofs.Places.{left_of, right_of}
use Rattle.scaler.specs.declared.Call.{Call}
use Rattle.scaler.specs.declared.Order.{Order}
use Rattle.scaler.specs.declared.Order.TheVariants.{ClearAccess, VetoSet, VetoReset, Enable, Disable, RemoveRequest, ClearLine, VetoLine, ManClr}
use Rattle.scaler.specs.Orders.{inhibited}
use Rattle.scaler.specs.Clock.{count_one, clocked}
use Rattle.scaler.proofs.Formed.{Well, Reaching, Forming, formed_stays, formed_lasts, malformed_lasts}
use Rattle.v260.specs.declared.Switches.{Switches}
use Rattle.v260.specs.declared.V260.{V260}
use Rattle.scaler.specs.Outcomes.{refused, done}
use Rattle.v260.specs.Outcomes.{fits, is_formed, start_of}
use Rattle.v260.specs.Counting.{after, is_joined, unjoined, pulsed}
use Rattle.v260.specs.Registers.{registers}
use Rattle.scaler.specs.Calls.{counted, tested, obey, step_of, called_of}
use Rattle.v260.specs.Module.{v260}
use Rattle.v260.proofs.Stepping.{inside}
use Rattle.v260.proofs.Numbering.{answering}

-- ---- counts that fit go on fitting
-- a count of 24 bits
next_fits : (x : ℕ) → ltb (next 24 x) (2 ^ 24) ≡ true
next_fits x = lt-ltb (next 24 x) (2 ^ 24) (omega arith)

set_fits : (counts : List ℕ) (k x : ℕ) → fits counts ≡ true → fits (set counts k (next 24 x)) ≡ true
set_fits [] k x e = refl
set_fits (c ∷ cs) zero x e = rw (next_fits x) (right_of (ltb c (2 ^ 24)) (fits cs) e)
set_fits (c ∷ cs) (suc k) x e =
    rw (left_of (ltb c (2 ^ 24)) (fits cs) e) (set_fits cs k x (right_of (ltb c (2 ^ 24)) (fits cs) e))

clocked_fits : (joins : ℕ → Bool) (after : ℕ → ℕ) (n k : ℕ) (counts : List ℕ) → fits counts ≡ true → fits (clocked 24 joins after n k counts) ≡ true
unfolding clocked
clocked_fits joins after zero k counts e = e
clocked_fits joins after (suc n) k counts e =
    let one = set_fits counts k (get_or counts k 0) e in
    either_way (λ (l : List ℕ). fits l ≡ true) (carries 24 (get_or counts k 0) && joins k)
    (clocked 24 joins after n (after k) (count_one 24 k counts)) (count_one 24 k counts)
    (clocked_fits joins after n (after k) (count_one 24 k counts) one) one

map_fits : (counts : List ℕ) → fits (map (next 24) counts) ≡ true
map_fits [] = refl
map_fits (c ∷ cs) = rw (next_fits c) (map_fits cs)

-- ---- what Formed asks
module _ (s : V260) (i : Interrupter) (f : is_formed s i ≡ true) where
  -- with the same level, and counts that fit
  with_counts : (counts : List ℕ) → fits counts ≡ true → well_formed i && fits counts ≡ true
  with_counts counts e = rw (left_of (well_formed i) (fits s.scales.counts) f) e

  -- scales that are zeroed
  zeroed_well : well_formed i && fits (replicate 16 0) ≡ true
  zeroed_well = with_counts (replicate 16 0) refl

  tested_well : Well inside (tested v260 s i)
  tested_well =
      either_way (Well inside) (unjoined s) _ (refused NoMeaning s i)
      (either_way (Well inside) (inhibited s.scales) (done 0 s i) (counted v260 (map (next 24) s.scales.counts) s i) f
      (with_counts (map (next 24) s.scales.counts) (map_fits s.scales.counts)))
      f

  ordered_well : (o : Order) → Well inside (obey v260 o s i)
  ordered_well ClearAccess = zeroed_well
  ordered_well VetoSet = f
  ordered_well VetoReset = f
  ordered_well Enable = f
  ordered_well Disable = f
  ordered_well RemoveRequest = f
  ordered_well ClearLine = zeroed_well
  ordered_well (VetoLine on) = f
  ordered_well ManClr = zeroed_well

  rows_well : (a : Access) → Reaching inside s i a (look_up registers a)
  rows_well a =
      each_row (Reaching inside s i a) registers a (λ why. f)
      (λ place. f)
      (λ place. tested_well)
      (λ place. f)
      (λ place. f)
      (λ place. zeroed_well)
      (λ place. either_way (Well inside) (eqb a.width 32) _ _ f f)
      (λ place. f)
      (λ place. f)
      (λ place. f)
      (λ place. f)
      (λ place. f)
      (λ place. f)

forming : Forming inside
forming =
    record {
      clocks_well = λ o x w.
          let s = o.state in
          with_counts s o.interrupter w (pulsed s.switches s.scales.counts x)
          (clocked_fits (λ y. is_joined s.switches (after y)) after 16 x s.scales.counts (right_of (well_formed o.interrupter) (fits s.scales.counts) w));
      tested_well = tested_well;
      ordered_well = λ o s i f. ordered_well s i f o;
      rows_well = λ s i a f. rows_well s i f a;
    }

-- ---- the theorems
-- a state and an interrupter that are well formed, and so do not get 12, are so after every call
pub v260_formed_stays : (s : V260) (i : Interrupter) (c : Call) → is_formed s i ≡ true → is_formed (step_of v260 s i c).state (step_of v260 s i c).interrupter ≡ true
v260_formed_stays s i c f = formed_stays inside forming s i f c

-- and after every list of calls
pub v260_formed_lasts : (calls : List Call) (s : V260) (i : Interrupter) → is_formed s i ≡ true
    → is_formed (called_of v260 calls (done 0 s i)).state (called_of v260 calls (done 0 s i)).interrupter ≡ true
v260_formed_lasts calls s i f = formed_lasts inside forming calls (done 0 s i) f

-- the start's number: 12 exactly when the level is above 7, else 0
pub v260_start_number : (switches : Switches) (level : ℕ) → number_of (start_of switches level).answer ≡ cond (ltb 7 level) 12 0
v260_start_number switches level = go (dec_lt 7 level)
  where
    go : Dec (7 < level) → number_of (start_of switches level).answer ≡ cond (ltb 7 level) 12 0
    go (yes h) = rw (lt-leb level 7 h, lt-ltb 7 level h)
    go (no h) = let l : level ≤ 7 = omega arith in rw (le-leb level 7 l, le-ltb 7 level l)

-- "A refused start returns the power-on record .. which gets 12 from then on": each call, after any list of calls,
-- gets it and leaves that record
pub refused_start : (switches : Switches) (level : ℕ) (calls : List Call) (c : Call) → 7 < level
    → (number_of (step_of v260 (called_of v260 calls (start_of switches level)).state (called_of v260 calls (start_of switches level)).interrupter c).answer ≡ 12)
    × ((step_of v260 (called_of v260 calls (start_of switches level)).state (called_of v260 calls (start_of switches level)).interrupter c).state ≡ (start_of switches level).state)
    × ((step_of v260 (called_of v260 calls (start_of switches level)).state (called_of v260 calls (start_of switches level)).interrupter c).interrupter ≡ (start_of switches level).interrupter)
refused_start switches level calls c h =
    malformed_lasts inside answering calls (start_of switches level) c (rw (lt-leb level 7 h))
