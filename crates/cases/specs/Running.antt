-- What a case of document 01's "Reckoned by hand" is, and when it is right: each step is given to the module, and the
-- answer's number and value are those that the case expects; at the end, so are the pulses admitted. Assumes nothing.
use Rattle.std.specs.Prelude.{ℕ, suc, ◌+◌, ◌-◌, ◌%◌, ◌^◌, Bool, cond, ◌&&◌, Result, Ok, Err, Option, Some, None, is_none, List, [], ◌∷◌, ◌++◌, length, take, replicate, ◌==◌}
use Rattle.benchlog.specs.declared.Entry.{Entry}
use Rattle.benchlog.specs.declared.Entry.TheVariants as entry
use Rattle.benchlog.specs.declared.Numeral.{Numeral}
use Rattle.benchlog.specs.declared.Refused.{Refused}
use Rattle.benchlog.specs.Faults.{fault_number}
use Rattle.benchlog.specs.Number.{number_at}
use Rattle.bus.specs.declared.Reply.{Reply}
use Rattle.bus.specs.Answers.{Answer, reply_of, admitted}
use Rattle.meb.specs.Ring.{Memory, lent}
use Rattle.modules.specs.declared.Which.{Which}
use Rattle.modules.specs.declared.Module.{Module}
use Rattle.modules.specs.declared.Module.TheVariants as held
use Rattle.modules.specs.Entries.{acted, memory_after}
use Rattle.modules.specs.Heads.{begun_of, lent_of}
use Rattle.scaler.specs.Orders.{inhibited}
use Rattle.cases.specs.declared.running.Bench.{Bench}
use Rattle.cases.specs.declared.Case.{Case}
use Rattle.cases.specs.declared.Line.{Line}
use Rattle.cases.specs.declared.Step.{Step}
use Rattle.cases.specs.declared.Step.TheVariants.{Gives, Reads}

-- a number that the log reader reads, or its refusal, with value 0
abbrev pub reply_of_numeral : Result Numeral Refused → Reply
reply_of_numeral (Ok read) = record { number = 0; value = read.value }
reply_of_numeral (Err refused) = record { number = fault_number refused.fault; value = 0 }

-- the answer to a step
abbrev pub replied : Bench → Memory → Step → Reply
replied b memory (Gives e) = reply_of (acted b.held memory e).answer
replied b memory (Reads bytes) = reply_of_numeral (number_at bytes 0)

-- a module that is inhibited: by the front line or the VME setting, a V830 by VETO
abbrev pub inhibits : Module → Bool
inhibits (held.V260 s i) = inhibited s.scales
inhibits (held.V560 s i) = inhibited s.scales
inhibits (held.V830 s) = s.veto

-- the pulses on an input that an entry brings; the TEST pulses, which are admitted too, are left out: no marked case
-- has one
abbrev pub pulses_in : Entry → ℕ
pulses_in (entry.Pulse channel n) = n
pulses_in (entry.Veto on) = 0
pulses_in entry.Test = 0
pulses_in entry.Clear = 0
pulses_in entry.Trigger = 0
pulses_in (entry.Read offset width) = 0
pulses_in (entry.Write offset width word) = 0
pulses_in entry.ManClr = 0

-- those of them that are admitted, where the module answers so
abbrev pub admitted_by : Bench → Entry → Answer → ℕ
admitted_by b e answer = admitted answer (inhibits b.held.module) (pulses_in e)

-- the module, and the pulses admitted so far, after a step
abbrev pub after_step : Bench → Memory → Step → Bench
after_step b memory (Gives e) =
    record {
      held = acted b.held memory e;
      pulses = (b.pulses + admitted_by b e (acted b.held memory e).answer) % 2 ^ 32;
    }
after_step b memory (Reads bytes) = b

-- and the lent words
abbrev pub memory_left : Bench → Memory → Step → Memory
memory_left b memory (Gives e) = memory_after b.held memory e
memory_left b memory (Reads bytes) = memory

-- whether an answer is the one expected
abbrev pub is_expected : Line → Reply → Bool
is_expected l reply = reply.number == l.expected.number && reply.value == l.expected.value

-- the number of the first step, from k on, whose answer is not the one expected, or the one after the last where the
-- pulses admitted are not; none where all is right
unfoldable pub wrong_from : ℕ → ℕ → Bench → Memory → List Line → Option ℕ
wrong_from k pulses b memory [] = cond (b.pulses == pulses) None (Some k)
wrong_from k pulses b memory (l ∷ ls) =
    cond (is_expected l (replied b memory l.step))
    (wrong_from (suc k) pulses (after_step b memory l.step) (memory_left b memory l.step) ls)
    (Some k)

-- a case: its line in document 01, the module, all values of its start, the steps, and the pulses admitted
pub record Marked : Type 0 where
  pub line : ℕ
  pub which : Which
  pub start : List ℕ
  pub lines : List Line
  pub pulses : ℕ

-- the values of a start: those that are given, and zeros behind them
abbrev pub filled : List ℕ → List ℕ
filled start = take 40 start ++ replicate (40 - length start) 0

-- what a case of the program says
abbrev pub seen : Case → Marked
seen c = record { line = c.line; which = c.which; start = filled c.start.now; lines = c.lines.now; pulses = c.pulses }

-- that of a case, with this memory lent
abbrev pub wrong_with : Marked → Memory → Option ℕ
wrong_with c memory = wrong_from 1 c.pulses (record { held = begun_of c.which c.start memory; pulses = 0 }) memory c.lines

-- with a memory of zeros, of so many words as the case says
abbrev pub wrong_in : Marked → Option ℕ
wrong_in c = wrong_with c (lent (replicate (lent_of c.which c.start 66) 0))

-- the numbers of the cases that are wrong
abbrev pub wrong_cases : ℕ → List Marked → List ℕ
wrong_cases k [] = []
wrong_cases k (c ∷ cs) = cond (is_none (wrong_in c)) (wrong_cases (suc k) cs) (k ∷ wrong_cases (suc k) cs)
