-- The steps of a case that are left give what all of them give: one turn, and when they are over. Assumes nothing.
use Rattle.std.proofs.Common.{◌≡◌, ℕ, ◌+◌, ◌<◌, ◌≤◌, true, false, Option, Some, None, List, length, get_or, drop, add-one, drop_of_length-le, drop-cons, eq-eqb, ne_eqb}
use Rattle.bus.specs.declared.Reply.{Reply}
use Rattle.meb.specs.Ring.{Memory}
use Rattle.cases.specs.declared.running.Bench.{Bench}
use Rattle.cases.specs.declared.Line.{Line}
use Rattle.cases.specs.Running.{wrong_from, is_expected, replied, after_step, memory_left}

module _ (pulses k : ℕ) (b : Bench) (memory : Memory) (ls : List Line) where
  -- what the steps from k on give
  abbrev pub left : Option ℕ
  left = wrong_from (k + 1) pulses b memory (drop k ls)

  -- no step is left, and the pulses admitted are those expected, or not
  pub all_right : length ls ≤ k → b.pulses ≡ pulses → left ≡ None
  unfolding wrong_from
  all_right h e = rw (drop_of_length-le ls {i = k} h, eq-eqb _ _ e)

  pub not_admitted : length ls ≤ k → (b.pulses ≡ pulses → ⊥) → left ≡ Some (k + 1)
  unfolding wrong_from
  not_admitted h n = rw (drop_of_length-le ls {i = k} h, ne_eqb _ _ n)

  module _ (d : Line) (q : k < length ls) where
    -- the answer to the step at k is wrong, or right
    pub one_wrong : (r : Reply) → r ≡ replied b memory (get_or ls k d).step → is_expected (get_or ls k d) r ≡ false → left ≡ Some (k + 1)
    unfolding wrong_from
    one_wrong r e w = rw (drop-cons ls k d q, ← e, w)

    pub one_right : (r : Reply) → r ≡ replied b memory (get_or ls k d).step → is_expected (get_or ls k d) r ≡ true
        → wrong_from (k + 1 + 1) pulses (after_step b memory (get_or ls k d).step) (memory_left b memory (get_or ls k d).step) (drop (k + 1) ls) ≡ left
    unfolding wrong_from
    one_right r e w = rw (drop-cons ls k d q, ← e, w, add-one (k + 1), add-one k)
