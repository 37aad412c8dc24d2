-- The V560 stays well formed (document 01, 12: "level above 7"): what Formed asks of its own calls; the theorems
-- follow. Assumes nothing.
use Prim.Native.Nat.{ℕ, ◌%◌}
use mathlib.Core.Path.{◌≡◌}
use mathlib.Core.Bool.{Bool, true, false}
use mathlib.Core.List.{List}
use native.Mathlib.Omega.{arith}
use borrow.Author.Tests.{le-leb}
use lib.Dec.{eqb}
use Rattle.bus.specs.declared.Access.{Access}
use Rattle.bus.specs.declared.Refusal.TheVariants.{NoMeaning}
use Rattle.bus.specs.declared.interrupter.Interrupter.{Interrupter}
use Rattle.bus.specs.Interrupting.{well_formed}
use Rattle.bus.specs.Table.{look_up}
use Rattle.bus.proofs.Choices.{either_way}
use Rattle.bus.proofs.Numbers.{each_row}
use Rattle.scaler.specs.declared.Call.{Call}
use Rattle.scaler.specs.declared.Order.{Order}
use Rattle.scaler.specs.declared.Order.TheVariants.{ClearAccess, VetoSet, VetoReset, Enable, Disable, RemoveRequest, ClearLine, VetoLine, ManClr}
use Rattle.scaler.specs.Orders.{inhibited}
use Rattle.scaler.proofs.Formed.{Well, Reaching, Forming, formed_stays, formed_lasts}
use Rattle.v560.specs.declared.V560.{V560}
use Rattle.scaler.specs.Outcomes.{refused, done}
use Rattle.v560.specs.Counting.{unjoined}
use Rattle.v560.specs.Registers.{registers, request_for, level_for, vector_for}
use Rattle.scaler.specs.Calls.{tested, obey, step_of, called_of}
use Rattle.v560.specs.Module.{v560}
use Rattle.v560.proofs.Stepping.{inside}

module _ (s : V560) (i : Interrupter) (f : well_formed i ≡ true) where
  tested_well : Well inside (tested v560 s i)
  tested_well =
      either_way (Well inside) (unjoined s) _ (refused NoMeaning s i) (either_way (Well inside) (inhibited s.scales) (done 0 s i) _ f f) f

  ordered_well : (o : Order) → Well inside (obey v560 o s i)
  ordered_well ClearAccess = f
  ordered_well VetoSet = f
  ordered_well VetoReset = f
  ordered_well Enable = f
  ordered_well Disable = f
  ordered_well RemoveRequest = f
  ordered_well ClearLine = f
  ordered_well (VetoLine on) = f
  ordered_well ManClr = f

  -- a register that is read or written: of the level that is written three bits count
  register_well : (word : ℕ) (b : Bool) → Well inside (request_for b s i word) × Well inside (level_for b s i word) × Well inside (vector_for b s i word)
  register_well word true = (f, le-leb (word % 8) 7 (omega arith), f)
  register_well word false = (f, f, f)

  rows_well : (a : Access) → Reaching inside s i a (look_up registers a)
  rows_well a =
      let r = register_well a.«data» a.write in
      each_row (Reaching inside s i a) registers a (λ why. f)
      (λ place. f)
      (λ place. tested_well)
      (λ place. f)
      (λ place. f)
      (λ place. f)
      (λ place. either_way (Well inside) (eqb a.width 32) _ _ f f)
      (λ place. f)
      (λ place. r.0)
      (λ place. f)
      (λ place. f)
      (λ place. f)
      (λ place. r.1)
      (λ place. r.2)

forming : Forming inside
forming =
    record {
      clocks_well = λ o x w. w;
      tested_well = tested_well;
      ordered_well = λ o s i f. ordered_well s i f o;
      rows_well = λ s i a f. rows_well s i f a;
    }

-- an interrupter that is well formed, so that no call gets 12, is so after every call
pub v560_formed_stays : (s : V560) (i : Interrupter) (c : Call) → well_formed i ≡ true → well_formed (step_of v560 s i c).interrupter ≡ true
v560_formed_stays s i c f = formed_stays inside forming s i f c

-- and after every list of calls
pub v560_formed_lasts : (calls : List Call) (s : V560) (i : Interrupter) → well_formed i ≡ true → well_formed (called_of v560 calls (done 0 s i)).interrupter ≡ true
v560_formed_lasts calls s i f = formed_lasts inside forming calls (done 0 s i) f
