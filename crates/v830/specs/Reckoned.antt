-- Document 01's case "One word, enable 1, no header, AUTO RESET: 4 pulses, trigger, 3 pulses, trigger (9), 2 pulses.
-- Event 4, live 5, admitted 9.", as a stretch of demand 3. Assumes nothing.
use Rattle.std.specs.Prelude.{ℕ, true, List, [], ◌∷◌}
use Rattle.bus.specs.declared.Access.{Access}
use Rattle.meb.specs.Ring.{Memory, lent}
use Rattle.v830.specs.declared.Call.TheVariants as call
use Rattle.v830.specs.declared.V830.{V830}
use Rattle.v830.specs.Outcomes.{started}
use Rattle.v830.specs.Calls.{step_of}
use Rattle.v830.specs.Account.{Made, lending}

-- a write of 32 or 16 bits
abbrev pub written : ℕ → ℕ → ℕ → Access
written offset width word = record { offset = offset; width = width; write = true; «data» = word }

abbrev pub memory : Memory
memory = lent (1 ∷ [])

-- Channel Enable 1
abbrev pub before : V830
before = (step_of (started 0 memory).state memory (call.Access (written 0x1100 32 1))).outcome.state

-- random trigger and AUTO RESET
abbrev pub write : Access
write = written 0x1108 16 0x81

abbrev pub calls : List Made
calls =
    lending (call.Pulses 0 4) ∷ lending call.TriggerLine
    ∷ lending (call.Pulses 0 3) ∷ lending call.TriggerLine
    ∷ lending (call.Pulses 0 2) ∷ []
