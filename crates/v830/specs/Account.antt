-- The words of demand 3: what calls hand out, which triggers they bring and which pulses. Assumes nothing.
use Rattle.std.specs.Prelude.{ℕ, ◌+◌, ◌%◌, ◌^◌, ◌<◌, ◌≡◌, Bool, true, false, cond, not, ◌&&◌, List, [], ◌∷◌, ◌++◌, eqb, length, get_or, drop}
use Rattle.bus.specs.Answers.{Answer, value_of, is_done, admitted}
use Rattle.count.specs.Counter.{bit}
use Rattle.layout.specs.declared.Event.{Event}
use Rattle.layout.specs.declared.Settings.{Settings}
use Rattle.layout.specs.Layout.{event_words}
use Rattle.layout.specs.Length.{event_length}
use Rattle.layout.specs.Numbers.{gives_length}
use Rattle.layout.specs.Reader.{with_event, read_of}
use Rattle.meb.specs.Ring.{Memory}
use Rattle.meb.specs.Stores.{stored_words}
use Rattle.v830.specs.declared.Call.{Call}
use Rattle.v830.specs.declared.deeds.Deed.{Deed}
use Rattle.v830.specs.declared.deeds.Deed.TheVariants.{Refuse, Pulses, Veto, Test, Clear, Trigger, HandOut, ReadCounter, ReadEnable, WriteEnable, ReadControl, WriteControl, SetBits, ClearBits, Reset, ReadTriggers, ReadEvents}
use Rattle.v830.specs.declared.deeds.Source.{Source}
use Rattle.v830.specs.declared.V830.{V830}
use Rattle.v830.specs.State.{is_set, settings}
use Rattle.v830.specs.Outcomes.{Step}
use Rattle.v830.specs.Trigger.{event_of}
use Rattle.v830.specs.Deeds.{deed_of}
use Rattle.v830.specs.Calls.{has_length, step_of}

-- a call that is lent the module's memory, or, in its place, another one
pub data Made : Type 0 where
  lending : Call → Made
  lending_another : Memory → Call → Made

-- what a call leaves of the module and of its own memory
abbrev pub made : Step → Made → Step
made b (lending c) = step_of b.outcome.state b.memory c
made b (lending_another other c) = record { outcome = (step_of b.outcome.state other c).outcome; memory = b.memory }

abbrev pub call_of : Made → Call
call_of (lending c) = c
call_of (lending_another other c) = c

-- the memory that it is lent
abbrev pub lent_to : Step → Made → Memory
lent_to b (lending c) = b.memory
lent_to b (lending_another other c) = other

-- what demand 3 looks at: a memory read; a trigger; a write of Control by one of its three addresses; a CLEAR or
-- reset; pulses on an input; a TEST pulse; nothing of it
pub data Role : Type 0 where
  reads_memory : Role
  triggers_by : Source → Role
  writes_control : Role
  clears_all : Role
  pulses_on : ℕ → ℕ → Role
  tests_all : Role
  no_part : Role

abbrev pub role_of : Deed → Role
role_of (Refuse why) = no_part
role_of (Pulses k n) = pulses_on k n
role_of (Veto on) = no_part
role_of Test = tests_all
role_of (Clear by) = clears_all
role_of (Trigger by) = triggers_by by
role_of HandOut = reads_memory
role_of (ReadCounter k) = no_part
role_of ReadEnable = no_part
role_of (WriteEnable word) = no_part
role_of ReadControl = no_part
role_of (WriteControl word) = writes_control
role_of (SetBits word) = writes_control
role_of (ClearBits word) = writes_control
role_of Reset = clears_all
role_of ReadTriggers = no_part
role_of ReadEvents = no_part

-- the role of a call is that of its deed
abbrev pub role_in : Call → Role
role_in c = role_of (deed_of c)

-- "the words handed out": that of a memory read which is not refused
abbrev pub handed_by : Role → Answer → List ℕ
handed_by reads_memory answer = cond (is_done answer) (value_of answer ∷ []) []
handed_by (triggers_by source) answer = []
handed_by writes_control answer = []
handed_by clears_all answer = []
handed_by (pulses_on channel n) answer = []
handed_by tests_all answer = []
handed_by no_part answer = []

-- an event with the settings that it is written and read by
pub record Block : Type 0 where
  pub layout : Settings
  pub event : Event

-- "the accepted triggers": those that are not refused, each with the event of the module that it found
abbrev pub accepted_by : V830 → Role → Answer → List Block
accepted_by s reads_memory answer = []
accepted_by s (triggers_by source) answer = cond (is_done answer) (record { layout = settings s; event = event_of source s } ∷ []) []
accepted_by s writes_control answer = []
accepted_by s clears_all answer = []
accepted_by s (pulses_on channel n) answer = []
accepted_by s tests_all answer = []
accepted_by s no_part answer = []

-- the pulses admitted to channel k: VETO inhibits the inputs; "a TEST pulse that a channel counts is admitted to it
-- too", and VETO does not stop it
abbrev pub admitted_by : ℕ → V830 → Role → Answer → ℕ
admitted_by k s reads_memory answer = 0
admitted_by k s (triggers_by source) answer = 0
admitted_by k s writes_control answer = 0
admitted_by k s clears_all answer = 0
admitted_by k s (pulses_on channel n) answer = admitted answer s.veto (cond (eqb channel k) n 0)
admitted_by k s tests_all answer = admitted answer false 1
admitted_by k s no_part answer = 0

-- a move: the words that it hands out, the events of the triggers that it accepts, the pulses that it admits to each
-- channel
pub record Move : Type 0 where
  pub handed : List ℕ
  pub accepted : List Block
  pub pulses : ℕ → ℕ

-- none, and one after the other
abbrev pub no_move : Move
no_move = record { handed = []; accepted = []; pulses = λ k. 0 }

abbrev pub and_then : Move → Move → Move
and_then m n = record { handed = m.handed ++ n.handed; accepted = m.accepted ++ n.accepted; pulses = λ k. m.pulses k + n.pulses k }

-- a call is a move, by its role
abbrev pub move_by : V830 → Role → Answer → Move
move_by s role answer = record { handed = handed_by role answer; accepted = accepted_by s role answer; pulses = λ k. admitted_by k s role answer }

abbrev pub move_of : Step → Made → Move
move_of b m = move_by b.outcome.state (role_in (call_of m)) (made b m).outcome.answer

-- the account of a list of calls: what the last one leaves, and their moves one after the other
pub record Account : Type 0 where
  pub last : Step
  pub move : Move

unfoldable pub account_of : List Made → Step → Account
account_of [] b = record { last = b; move = no_move }
account_of (m ∷ ms) b =
    let rest : Account = account_of ms (made b m) in
    record { last = rest.last; move = and_then (move_of b m) rest.move }

-- the words of events, one after the other
unfoldable pub words_of : List Block → List ℕ
words_of [] = []
words_of (e ∷ es) = event_words e.layout e.event ++ words_of es

-- the block reader reads each of the events from its words
unfoldable pub AllRead : List Block → Type 0
AllRead [] = Unit {0}
AllRead (e ∷ es) = (read_of e.layout (event_words e.layout e.event) ≡ with_event e.event (gives_length e.layout)) × AllRead es

-- the block reader reads the events one after the other, from the first of these words on, and nothing is left
unfoldable pub ReadsOn : List Block → List ℕ → Type 0
ReadsOn [] ws = ws ≡ []
ReadsOn (e ∷ es) ws = (read_of e.layout ws ≡ with_event e.event (gives_length e.layout)) × ReadsOn es (drop (event_length e.layout) ws)

-- a channel's counts in events, added up
unfoldable pub counts_in : ℕ → List Block → ℕ
counts_in k [] = 0
counts_in k (e ∷ es) = get_or e.event.counts k 0 + counts_in k es

-- a channel's live counter
abbrev pub live : ℕ → V830 → ℕ
live k s = get_or s.counts k 0

-- whether channel k is enabled
abbrev pub enabled : ℕ → V830 → Bool
enabled k s = eqb (bit s.enable k) 1

-- "modulo 2^32 (2^26 short)"
abbrev pub modulus : V830 → ℕ
modulus s = cond (settings s).short (2 ^ 26) (2 ^ 32)

-- the words still stored, the oldest first
abbrev pub stored_in : Step → List ℕ
stored_in b = stored_words b.outcome.state.store b.memory

-- numbers of 32 bits and 32 channels, as every record of the code has them
pub record Fits (s : V830) : Type 0 where
  pub enable : s.enable < 2 ^ 32
  pub channels : length s.counts ≡ 32

-- a move from b to c balances for channel k, `on` saying whether the channel is enabled all along: what was stored
-- and what is accepted are what is handed out and what is stored then; with AUTO RESET what the accepted events have
-- of the channel and its live counter are what was live and what is admitted
pub record Balanced (k : ℕ) (on : Bool) (b : Step) (m : Move) (c : Step) : Type 0 where
  pub words : stored_in b ++ words_of m.accepted ≡ m.handed ++ stored_in c
  pub counts : on ≡ true → is_set 7 b.outcome.state.control ≡ true
      → (counts_in k m.accepted + live k c.outcome.state) % modulus b.outcome.state ≡ (live k b.outcome.state + m.pulses k) % modulus b.outcome.state
  pub read : AllRead m.accepted
  pub control : c.outcome.state.control ≡ b.outcome.state.control
  pub fits : Fits c.outcome.state

-- premises of a call, after which the next one comes

-- another write of Control, a CLEAR or a reset, if not refused, ends the stretch
abbrev pub ends_with : Role → Answer → Bool
ends_with reads_memory answer = false
ends_with (triggers_by source) answer = false
ends_with writes_control answer = is_done answer
ends_with clears_all answer = is_done answer
ends_with (pulses_on channel n) answer = false
ends_with tests_all answer = false
ends_with no_part answer = false

abbrev pub goes_on : Step → Made → Bool
goes_on b m = not (ends_with (role_in (call_of m)) (made b m).outcome.answer)

-- another memory is one of another length
abbrev pub other : Step → Made → Bool
other b (lending c) = true
other b (lending_another memory c) = not (has_length b.outcome.state memory)

-- channel k is enabled
abbrev pub stays : ℕ → Step → Made → Bool
stays k b m = enabled k b.outcome.state

-- a premise of every call of a list
unfoldable pub each : (Step → Made → Bool) → List Made → Step → Bool
each premise [] b = true
each premise (m ∷ ms) b = premise b m && each premise ms (made b m)
