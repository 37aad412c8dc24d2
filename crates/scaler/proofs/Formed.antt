-- Well formed or not, a module stays so, for both modules (document 01, "Numbers that come back", 12): no call makes
-- of a well-formed state and interrupter ones that get 12, and ones that get 12 get it from then on. Assumes nothing.
use Prim.Native.Nat.{ℕ, zero, suc}
use mathlib.Core.Path.{◌≡◌, refl, ◌∙◌}
use mathlib.Core.Bool.{true, false, ◌||◌}
use mathlib.Core.List.{List, [], ◌∷◌}
use lib.Dec.{ltb}
use Rattle.count.specs.Counter.{iterate}
use Rattle.bus.specs.declared.Access.{Access}
use Rattle.bus.specs.declared.Refusal.{Refusal}
use Rattle.bus.specs.declared.Refusal.TheVariants.{NoMeaning, NoChannel}
use Rattle.bus.specs.declared.interrupter.Interrupter.{Interrupter}
use Rattle.bus.specs.declared.table.Reached.{Reached}
use native.Mathlib.Omega.{arith}
use Rattle.std.specs.Prelude.{Result, Ok, Err}
use Rattle.bus.specs.Answers.{Answer, number_of, is_done}
use Rattle.bus.specs.Table.{look_up, by_table}
use Rattle.bus.proofs.Choices.{either_way}
use Rattle.scaler.specs.declared.Register.{Register}
use Rattle.scaler.specs.declared.Call.{Call}
use Rattle.scaler.specs.declared.Call.TheVariants as call
use Rattle.scaler.specs.declared.Order.{Order}
use Rattle.scaler.specs.declared.Order.TheVariants as order
use Rattle.scaler.specs.Orders.{inhibited}
use Rattle.scaler.specs.declared.module.Outcome.{Outcome}
use Rattle.scaler.specs.Outcomes.{refused, done}
use Rattle.scaler.specs.Module.{Module}
use Rattle.scaler.specs.Calls.{counted, pulse, tested, obey, performed, step_of, called_of}
use Rattle.scaler.specs.Refusals.{number_for}
use Rattle.scaler.proofs.Fair.{Inside}
use Rattle.scaler.proofs.Refusals.{Answering, refused_same, number_is}

-- an answer with the number 12 is a refusal
twelve_refuses : (a : Answer) → number_of a ≡ 12 → is_done a ≡ false
twelve_refuses (Ok v) e = absurd (omega (arith, e))
twelve_refuses (Err why) e = refl

module _ {S J : Type 0} {m : Module S} (inside : Inside m J) where
  -- what a call gives is well formed
  abbrev pub Well : Outcome S → Type 0
  Well o = m.formed o.state o.interrupter ≡ true

  -- what an access gives by what it reaches
  abbrev pub Reaching : S → Interrupter → Access → Result (Reached Register) Refusal → Type 0
  Reaching s i a to = Well (by_table (λ why. refused why s i) (λ register place. performed m register place s i a) to)

  -- what a module must show of its own calls: a pulse that is admitted, TEST, lines and the button, and each row of
  -- the table
  pub record Forming : Type 0 where
    pub clocks_well : (o : Outcome S) (x : ℕ) → Well o → Well (counted m (m.pulsed o.state x) o.state o.interrupter)
    pub tested_well : (s : S) (i : Interrupter) → m.formed s i ≡ true → Well (tested m s i)
    pub ordered_well : (o : Order) (s : S) (i : Interrupter) → m.formed s i ≡ true → Well (obey m o s i)
    pub rows_well : (s : S) (i : Interrupter) (a : Access) → m.formed s i ≡ true → Reaching s i a (look_up m.registers a)

  module _ (own : Forming) where
    pulse_well : (x : ℕ) (o : Outcome S) → Well o → Well (pulse m x o)
    pulse_well x o w =
        either_way Well (inhibited (m.scales o.state) || m.ignores o.state x) o (counted m (m.pulsed o.state x) o.state o.interrupter) w (own.clocks_well o x w)

    pulses_well : (x n : ℕ) (o : Outcome S) → Well o → Well (iterate n (pulse m x) o)
    unfolding iterate
    pulses_well x zero o w = w
    pulses_well x (suc n) o w = pulses_well x n (pulse m x o) (pulse_well x o w)

    module _ (s : S) (i : Interrupter) (f : m.formed s i ≡ true) where
      refused_well : (why : Refusal) → Well (refused why s i)
      refused_well why = f

      -- every call
      pub formed_stays : (c : Call) → Well (step_of m s i c)
      formed_stays (call.Pulses x n) =
          rw f
          (either_way Well (ltb x 16) (iterate n (pulse m x) (done 0 s i)) (refused NoChannel s i) (pulses_well x n (done 0 s i) f) (refused_well NoChannel))
      formed_stays (call.VetoLine on) = rw f (own.ordered_well (order.VetoLine on) s i f)
      formed_stays call.Test = rw f (own.tested_well s i f)
      formed_stays call.ClearLine = rw f (own.ordered_well order.ClearLine s i f)
      formed_stays call.Trigger = rw f (refused_well NoMeaning)
      formed_stays (call.Access a) = rw f (own.rows_well s i a f)
      formed_stays call.ManClr = rw f (own.ordered_well order.ManClr s i f)

    -- and every list of calls
    pub formed_lasts : (calls : List Call) (o : Outcome S) → Well o → Well (called_of m calls o)
    formed_lasts [] o w = w
    formed_lasts (c ∷ cs) o w = formed_lasts cs (step_of m o.state o.interrupter c) (formed_stays o.state o.interrupter w c)

  -- ---- not well formed
  twelve : (s : S) (i : Interrupter) (c : Call) → m.formed s i ≡ false → number_for m s i c ≡ 12
  twelve s i (call.Pulses x n) f = rw f
  twelve s i (call.VetoLine on) f = rw f
  twelve s i call.Test f = rw f
  twelve s i call.ClearLine f = rw f
  twelve s i call.Trigger f = rw f
  twelve s i (call.Access a) f = rw f
  twelve s i call.ManClr f = rw f

  module _ (own : Answering inside) where
    -- a call gets 12 and leaves all as it was
    malformed_call : (s : S) (i : Interrupter) (c : Call) → m.formed s i ≡ false
        → (number_of (step_of m s i c).answer ≡ 12) × ((step_of m s i c).state ≡ s) × ((step_of m s i c).interrupter ≡ i)
    malformed_call s i c f =
        let n = number_is inside own s i c ∙ twelve s i c f in
        let r = refused_same inside own s i c (twelve_refuses _ n) in
        (n, r.0, r.1)

    -- and so does every call after any list of calls
    pub malformed_lasts : (calls : List Call) (o : Outcome S) (c : Call) → m.formed o.state o.interrupter ≡ false
        → (number_of (step_of m (called_of m calls o).state (called_of m calls o).interrupter c).answer ≡ 12)
        × ((step_of m (called_of m calls o).state (called_of m calls o).interrupter c).state ≡ o.state)
        × ((step_of m (called_of m calls o).state (called_of m calls o).interrupter c).interrupter ≡ o.interrupter)
    malformed_lasts [] o c f = malformed_call o.state o.interrupter c f
    malformed_lasts (x ∷ cs) o c f =
        let r = malformed_call o.state o.interrupter x f in
        let t = malformed_lasts cs (step_of m o.state o.interrupter x) c (rw (r.1, r.2) f) in
        (t.0, t.1 ∙ r.1, t.2 ∙ r.2)
