-- The stretch of demand 3, "V830, random trigger, AUTO RESET, from the Control write that set this", and the reasons
-- for which a trigger is neglected in it. Assumes nothing.
use Rattle.std.specs.Prelude.{ℕ, ◌≡◌, true, false, List, leb, ltb, Some}
use Rattle.bus.specs.declared.Access.{Access}
use Rattle.bus.specs.Answers.{is_done}
use Rattle.layout.specs.Length.{event_length}
use Rattle.meb.specs.Ring.{Memory}
use Rattle.meb.specs.Stores.{free}
use Rattle.v830.specs.declared.Call.TheVariants as call
use Rattle.v830.specs.declared.V830.{V830}
use Rattle.v830.specs.declared.state.Mode.TheVariants.{Random}
use Rattle.v830.specs.State.{mode, is_set, settings}
use Rattle.v830.specs.Outcomes.{Step}
use Rattle.v830.specs.Calls.{has_length, step_of}
use Rattle.v830.specs.Account.{Made, writes_control, role_in, Fits, goes_on, other, each}

-- what the Control write leaves, of a V830 `before` that is lent this memory
abbrev pub begun : V830 → Memory → Access → Step
begun before memory write = step_of before memory (call.Access write)

-- a Control write, and any calls from there on
pub record Stretch (before : V830) (memory : Memory) (write : Access) (calls : List Made) : Type 0 where
  -- "V830": 32 counters and a Channel Enable of 32 bits, as every record of the code has them
  pub fits : Fits before
  -- "from the Control write": to one of Control's three addresses, and not refused
  pub control : role_in (call.Access write) ≡ writes_control
  pub not_refused : is_done (begun before memory write).outcome.answer ≡ true
  -- "that set this": "random trigger, AUTO RESET"
  pub random : mode (begun before memory write).outcome.state.control ≡ Some Random
  pub auto_reset : is_set 7 (begun before memory write).outcome.state.control ≡ true
  -- up to the next such write, or a CLEAR or a reset, that is not refused
  pub goes : each goes_on calls (begun before memory write) ≡ true
  -- a call that is lent another memory is lent one of another length (and answers 10, where it looks at it)
  pub others : each other calls (begun before memory write) ≡ true

-- "a trigger is neglected only for a reason in document 01": the number, and its line there. Within the stretch the
-- mode is random and the record not malformed, so that 7 and 12 are none.
pub data Reason (s : V830) (memory : Memory) : ℕ → Type 0 where
  wrong_memory : has_length s memory ≡ false → Reason s memory 10
  no_words : ltb 0 (event_length (settings s)) ≡ false → Reason s memory 8
  too_few_free : leb (event_length (settings s)) (free s.store).0 ≡ false → Reason s memory 9
