-- What a call of a module of sixteen scales gives (document 01, "Numbers that come back"). Assumes nothing.
use Rattle.std.specs.Prelude.{ℕ, Bool, cond, Ok, Err}
use Rattle.bus.specs.declared.Refusal.{Refusal}
use Rattle.bus.specs.declared.interrupter.Interrupter.{Interrupter}
use Rattle.scaler.specs.declared.module.Outcome.{Outcome}
use Rattle.scaler.specs.declared.module.Lent.{Lent}

-- "Every one returns its number, value 0 .. and the old state, interrupter included"
abbrev pub refused : {S : Type 0} → Refusal → S → Interrupter → Outcome S
refused why s i = record { answer = Err why; state = s; interrupter = i }

-- done, with the value read
abbrev pub done : {S : Type 0} → ℕ → S → Interrupter → Outcome S
done v s i = record { answer = Ok v; state = s; interrupter = i }

-- "The interrupter is one small record, lent to each access and changed in its place": what the call hands back
-- beside it
abbrev pub lent_of : {S : Type 0} → Outcome S → Lent S
lent_of o = record { answer = o.answer; state = o.state }

-- a link of the chain of refusals: `why`, unless this holds; else what comes after it
abbrev pub unless : {S : Type 0} → Bool → Refusal → S → Interrupter → Outcome S → Outcome S
unless holds why s i after = cond holds after (refused why s i)
