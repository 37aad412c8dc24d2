-- A module of sixteen scales, seen from inside, and a scale of it: every call that does not clear ticks the scale as
-- often as pulses are admitted to its first channel. Said once for the V260 and the V560, which each bring their own
-- way of joining. Assumes nothing.
use Prim.Native.Nat.{ℕ, zero, suc, ◌*◌, ◌%◌, ◌^◌, ◌<◌}
use mathlib.Core.Path.{◌≡◌, refl, sym, ap, subst, ◌∙◌}
use mathlib.Core.Bool.{Bool, true, false, cond, ◌||◌, not, false≢true}
use mathlib.Core.List.{List, [], ◌∷◌}
use native.Mathlib.Nat.{zero-add}
use borrow.Author.Tests.{eqb-true, eqb-false, ltb-true, not-true}
use lib.Dec.{eqb, ltb}
use lib.ListN.{length, replicate}
use Rattle.count.specs.Counter.{iterate}
use Rattle.count.specs.Chain.{tick_chain}
use Rattle.count.proofs.Repeats.{iterate_seen, iterate_same}
use Rattle.bus.specs.declared.Refusal.{Refusal}
use Rattle.bus.specs.declared.Refusal.TheVariants.{NoMeaning, NoChannel, Malformed}
use Rattle.bus.specs.declared.Access.{Access}
use Rattle.bus.specs.declared.interrupter.Interrupter.{Interrupter}
use Rattle.bus.specs.declared.table.Reached.{Reached}
use Rattle.std.specs.Prelude.{Result, Ok, Err}
use Rattle.bus.specs.Answers.{is_done, admitted}
use Rattle.bus.specs.Table.{look_up, by_table}
use Rattle.bus.proofs.Places.{left_of, right_of}
use Rattle.scaler.specs.declared.Register.{Register}
use Rattle.scaler.specs.declared.Call.{Call}
use Rattle.scaler.specs.declared.Call.TheVariants as call
use Rattle.scaler.specs.declared.Order.TheVariants as order
use Rattle.scaler.specs.declared.Scales.{Scales}
use Rattle.scaler.specs.Orders.{inhibited, counting}
use Rattle.scaler.specs.Admitted.{reaches, pulses_to, clears, no_clear, admitted_to}
use Rattle.scaler.specs.Registers.{is_increase, is_clear}
use Rattle.scaler.specs.declared.module.Outcome.{Outcome}
use Rattle.scaler.specs.Outcomes.{refused, done}
use Rattle.scaler.specs.Module.{Module}
use Rattle.scaler.specs.Calls.{counted, pulse, tested, obey, performed, step_of, called_of}
use Rattle.scaler.specs.Held.{counts_of, held}
use Rattle.bus.proofs.Choices.{cond_same, and_false, by_test}
use Rattle.scaler.proofs.Counted.{Counted, counted_none, counted_then, counted_held, zero_parts, zero_held}
use Rattle.scaler.proofs.Runs.{or_right}

-- what is inside a module: the switches J that join its channels, and that other scales leave what they are not
pub record Inside {S : Type 0} (m : Module S) (J : Type 0) : Type 0 where
  pub joins : S → J
  pub scales_scaled : (c : Scales) (s : S) → m.scales (m.scaled c s) ≡ c
  pub ignores_scaled : (c : Scales) (s : S) (x : ℕ) → m.ignores (m.scaled c s) x ≡ m.ignores s x

-- the counts of a state
abbrev pub scale_counts : {S : Type 0} → Module S → S → List ℕ
scale_counts m s = (m.scales s).counts

module _ {S J : Type 0} {m : Module S} (inside : Inside m J) where
  -- a call that leaves the switches and the counts
  abbrev pub Quiet : S → Outcome S → Type 0
  Quiet s o = (inside.joins o.state ≡ inside.joins s) × (scale_counts m o.state ≡ scale_counts m s)

  -- what a register does: Scale Increase, a clear access, or what leaves switches and counts
  pub data Does (s : S) (i : Interrupter) : Bool → Bool → Outcome S → Type 0 where
    increases : Does s i true false (tested m s i)
    clearing : (o : Outcome S) → o.answer ≡ Ok 0 → Does s i false true o
    stays : (v : ℕ) (o : Outcome S) → o.answer ≡ Ok v → Quiet s o → Does s i false false o

  -- that an access does to the register that it reaches
  abbrev pub Deed : S → Interrupter → Access → Result (Reached Register) Refusal → Type 0
  Deed s i a (Err why) = Unit {0}
  Deed s i a (Ok to) = Does s i (is_increase to.register) (is_clear to.register) (performed m to.register to.place s i a)

  -- pulses that are not admitted, and pulses on an input that does nothing
  pub idle : (x n : ℕ) (o : Outcome S) → inhibited (m.scales o.state) || m.ignores o.state x ≡ true → iterate n (pulse m x) o ≡ o
  unfolding iterate
  idle x zero o e = refl
  idle x (suc n) o e = ap (iterate n (pulse m x)) (rw e) ∙ idle x n o e

  -- a scale of w bits a channel: its channels, of which f is the first, and the states `Fit` that have it
  pub record Scale (w : ℕ) (run : List ℕ) (f : ℕ) (Fit : S → Type 0) : Type 0 where
    pub own_input : (s : S) → Fit s → m.ignores s f ≡ false
    pub own_tick : (s : S) → Fit s → counts_of run (m.pulsed s f) ≡ tick_chain w (counts_of run (scale_counts m s))
    pub other_stays : (s : S) (x : ℕ) → Fit s → x < 16 → (x ≡ f → ⊥) → m.ignores s x ≡ false → counts_of run (m.pulsed s x) ≡ counts_of run (scale_counts m s)
    pub size : (s : S) → Fit s → length (scale_counts m s) ≡ 16
    pub same_size : (s : S) (x : ℕ) → length (m.pulsed s x) ≡ length (scale_counts m s)
    pub stays_fit : (o : Outcome S) (l : List ℕ) → Fit o.state → length l ≡ length (scale_counts m o.state) → Fit (counted m l o.state o.interrupter).state

  module _ (w : ℕ) (run : List ℕ) (f : ℕ) (Fit : S → Type 0) where
    -- an outcome in which the scale was ticked as often as pulses were admitted of the p that the call brought
    abbrev pub Fair : ℕ → S → Outcome S → Type 0
    Fair p s o = Fit o.state × Counted w run (admitted o.answer (inhibited (m.scales s)) p) (scale_counts m s) (scale_counts m o.state)

    pub fair_quiet : (s : S) (o : Outcome S) → Fit o.state → scale_counts m o.state ≡ scale_counts m s → Fair 0 s o
    fair_quiet s o g q = (g, rw cond_same (subst (Counted w run 0 (scale_counts m s)) (sym q) (counted_none w run (scale_counts m s))))

    pub fair_refused : (p : ℕ) (s : S) (o : Outcome S) → Fit o.state → scale_counts m o.state ≡ scale_counts m s → is_done o.answer ≡ false → Fair p s o
    fair_refused p s o g q e = (g, rw e (subst (Counted w run 0 (scale_counts m s)) (sym q) (counted_none w run (scale_counts m s))))

    -- inhibited: nothing is admitted
    pub fair_inhibited : (p : ℕ) (s : S) (o : Outcome S) → Fit o.state → scale_counts m o.state ≡ scale_counts m s → inhibited (m.scales s) ≡ true → Fair p s o
    fair_inhibited p s o g q e =
        (g, rw (e, and_false (is_done o.answer)) (subst (Counted w run 0 (scale_counts m s)) (sym q) (counted_none w run (scale_counts m s))))

    module _ (c : Scale w run f Fit) (x : ℕ) where
      -- pulses on input x count
      abbrev Live : Outcome S → Type 0
      Live o = (o.answer ≡ Ok 0) × (inhibited (m.scales o.state) || m.ignores o.state x ≡ false) × Fit o.state

      -- the counts of the scale
      abbrev seen : Outcome S → List ℕ
      seen o = counts_of run (scale_counts m o.state)

      -- one pulse that counts, given what it does to the counts of the scale
      turn : (g : List ℕ → List ℕ) (o : Outcome S) → Live o → counts_of run (m.pulsed o.state x) ≡ g (seen o) → Live (pulse m x o) × (seen (pulse m x o) ≡ g (seen o))
      turn g o l t =
          let n = counted m (m.pulsed o.state x) o.state o.interrupter in
          let p : n ≡ pulse m x o = rw l.1 in
          let k = inside.scales_scaled (counting (m.pulsed o.state x) (m.scales o.state)) o.state in
          let live : Live n = (
            refl,
            rw (k, inside.ignores_scaled (counting (m.pulsed o.state x) (m.scales o.state)) o.state x) l.1,
            c.stays_fit o (m.pulsed o.state x) l.2 (c.same_size o.state x),
          ) in
          subst (λ (q : Outcome S). Live q × (seen q ≡ g (seen o))) p (live, ap (λ (a : Scales). counts_of run a.counts) k ∙ t)

      -- n pulses on an input that counts, given what one does to the counts of the scale
      often : (g : List ℕ → List ℕ) → ((o : Outcome S) → Live o → counts_of run (m.pulsed o.state x) ≡ g (seen o))
          → (n : ℕ) (o : Outcome S) → Live o → Live (iterate n (pulse m x) o) × (seen (iterate n (pulse m x) o) ≡ iterate n g (seen o))
      often g each n o l = iterate_seen (pulse m x) g seen Live (λ a h. turn g a h (each a h)) n o l

      -- n pulses on any input
      pub fair_pulses : (n : ℕ) (o : Outcome S) → x < 16 → o.answer ≡ Ok 0 → Fit o.state → Fair (cond (eqb x f) n 0) o.state (iterate n (pulse m x) o)
      unfolding iterate
      fair_pulses n o h d g = go (inhibited (m.scales o.state)) (m.ignores o.state x) (eqb x f) refl refl refl
        where
          still : inhibited (m.scales o.state) || m.ignores o.state x ≡ true → o ≡ iterate n (pulse m x) o
          still e = sym (idle x n o e)

          grown : Fit (iterate n (pulse m x) o).state → length (scale_counts m (iterate n (pulse m x) o).state) ≡ length (scale_counts m o.state)
          grown l = c.size (iterate n (pulse m x) o).state l ∙ sym (c.size o.state g)

          go : (a b e : Bool) → inhibited (m.scales o.state) ≡ a → m.ignores o.state x ≡ b → eqb x f ≡ e
              → Fair (cond e n 0) o.state (iterate n (pulse m x) o)
          go true b e p q r = subst (Fair (cond e n 0) o.state) (still (rw p)) (fair_inhibited (cond e n 0) o.state o g refl p)
          go false true true p q r =
              absurd (false≢true (sym (c.own_input o.state g) ∙ ap (m.ignores o.state) (sym (eqb-true x f r)) ∙ q))
          go false true false p q r = subst (Fair 0 o.state) (still (rw (p, q))) (fair_quiet o.state o g refl)
          go false false true p q r =
              let t = often (tick_chain w) (λ a l. ap (λ (y : ℕ). counts_of run (m.pulsed a.state y)) (eqb-true x f r) ∙ c.own_tick a.state l.2) n o (d, rw (p, q), g) in
              (t.0.2, rw (t.0.0, p) (record { size = grown t.0.2; ticks = t.1 }))
          go false false false p q r =
              let t = often (λ l. l) (λ a l. c.other_stays a.state x l.2 h (eqb-false x f r) (or_right (inhibited (m.scales a.state)) (m.ignores a.state x) l.1)) n o (d, rw (p, q), g) in
              (t.0.2, rw cond_same (record { size = grown t.0.2; ticks = t.1 ∙ iterate_same n (seen o) }))

    -- what a module must show of its own calls: the front line leaves switches and counts, what each row does, and
    -- TEST is fair
    pub record Own : Type 0 where
      pub fit_stays : (s t : S) → inside.joins t ≡ inside.joins s → scale_counts m t ≡ scale_counts m s → Fit s → Fit t
      pub line_stays : (s : S) (i : Interrupter) (on : Bool) → Quiet s (obey m (order.VetoLine on) s i)
      pub row_does : (s : S) (i : Interrupter) (a : Access) → Deed s i a (look_up m.registers a)
      pub fair_tested : (s : S) (i : Interrupter) → Fit s → Fair 1 s (tested m s i)

    module _ (own : Own) (c : Scale w run f Fit) (s : S) (i : Interrupter) (g : Fit s) where
      -- a refusal
      declined : (p : ℕ) (why : Refusal) → Fair p s (refused why s i)
      declined p why = fair_refused p s (refused why s i) g refl refl

      -- 12 comes first
      well_formed_lem : (p : ℕ) (o : Outcome S) → Fair p s o → Fair p s (cond (m.formed s i) o (refused Malformed s i))
      well_formed_lem p o h = by_test (Fair p s) (m.formed s i) o (refused Malformed s i) (λ _. h) (λ _. declined p Malformed)

      stays_fair : (o : Outcome S) → Quiet s o → Fair 0 s o
      stays_fair o q = fair_quiet s o (own.fit_stays s o.state q.0 q.1 g) q.1

      does_fair : {b c : Bool} {o : (Outcome S)} → Does s i b c o → c ≡ false → Fair (cond b 1 0) s o
      does_fair increases e = own.fair_tested s i g
      does_fair (clearing o d) e = absurd (false≢true (sym e))
      does_fair (stays v o d q) e = stays_fair o q

      by_row : (to : Result (Reached Register) Refusal) (a : Access) → Deed s i a to → reaches is_clear to ≡ false
          → Fair (cond (reaches is_increase to) 1 0) s (by_table (λ why. refused why s i) (λ register place. performed m register place s i a) to)
      by_row (Err why) a d e = stays_fair (refused why s i) (refl, refl)
      by_row (Ok to) a d e = does_fair d e

      -- every call that does not clear
      fair_step : (x : Call) → clears m.registers x ≡ false → Fair (pulses_to m.registers f x) s (step_of m s i x)
      fair_step (call.Pulses x n) e =
          well_formed_lem _ _ (by_test (Fair _ s) (ltb x 16) _ (refused NoChannel s i)
          (λ h. fair_pulses c x n (done 0 s i) (ltb-true x 16 h) refl g)
          (λ _. declined (cond (eqb x f) n 0) NoChannel))
      fair_step (call.VetoLine on) e = well_formed_lem 0 _ (stays_fair (obey m (order.VetoLine on) s i) (own.line_stays s i on))
      fair_step call.Test e = well_formed_lem 1 _ (own.fair_tested s i g)
      fair_step call.ClearLine e = absurd (false≢true (sym e))
      fair_step call.Trigger e = well_formed_lem 0 _ (declined 0 NoMeaning)
      fair_step (call.Access a) e = well_formed_lem _ _ (by_row (look_up m.registers a) a (own.row_does s i a) e)
      fair_step call.ManClr e = absurd (false≢true (sym e))

    -- the scale is ticked as often as pulses are admitted to it, over every list of calls that do not clear
    module _ (own : Own) (c : Scale w run f Fit) where
      scale_counts_lem : (calls : List Call) (o : Outcome S) → Fit o.state → no_clear m.registers calls ≡ true
          → Counted w run (admitted_to m f calls o) (scale_counts m o.state) (scale_counts m (called_of m calls o).state)
      scale_counts_lem [] o g e = counted_none w run (scale_counts m o.state)
      scale_counts_lem (x ∷ cs) o g e =
          let no = clears m.registers x in
          let t = fair_step own c o.state o.interrupter g x (not-true no (left_of (not no) (no_clear m.registers cs) e)) in
          counted_then w run _ _ t.1 (scale_counts_lem cs (step_of m o.state o.interrupter x) t.0 (right_of (not no) (no_clear m.registers cs) e))

      -- from zero it holds what was admitted, modulo 2 to its bits
      pub scale_holds : (calls : List Call) (o : Outcome S) → Fit o.state → counts_of run (scale_counts m o.state) ≡ replicate (length run) 0 → no_clear m.registers calls ≡ true
          → held w run (scale_counts m (called_of m calls o).state) ≡ admitted_to m f calls o % 2 ^ (w * length run)
      scale_holds calls o g z e =
          counted_held w run (admitted_to m f calls o) (rw z (zero_parts w (length run))) (scale_counts_lem calls o g e) ∙ rw (z, zero_held, zero-add)
