-- Any two permitted results of a public function are equal, the new state and every lent word among them: of each
-- function's contract, as the check reads it off the function's own clauses (`Post`). By `determined`, since each
-- contract is an equation with what a definition gives for the input. Not here, because what they give depends on what
-- the system reads or on whether it writes, of which no equation can speak: `stdio::refill`, `stdio::read_on`,
-- `stdio::flush`, `stdio::make_room` and `head::begin` (docs/PROMISES.md says of each what that leaves open). Assumes
-- nothing.
use Prim.Native.Nat.{ℕ}
use denote.Param.Laws.{Laws, IsCopy}
use denote.RattleType.{RattleType}
use mir.Syntax.{Dict}
use Rattle.std.specs.declared.clone.Clone as clone
use Rattle.scaler.specs.declared.module.Scaler as scaler
use mathlib.Core.Path.{◌≡◌, ap₂}
use mathlib.Core.List.{List}
use Rattle.count.specs.Determined.{OneResult, OneContent, OneOutcome}
use Rattle.count.proofs.Determined.{determined}
use Rattle.promises.specs.Lent.{OneLent}
use Rattle.promises.proofs.Walked.{both_determined}
use Rattle.count.proofs.tick.Reads as count-tick
use Rattle.count.proofs.bit_rose.Reads as count-bit-rose
use Rattle.count.proofs.tick_each.Reads as count-tick-each
use Rattle.bus.proofs.interrupter.Interrupter.power_on.Reads as bus-power-on
use Rattle.bus.proofs.interrupter.Interrupter.is_well_formed.Reads as bus-is-well-formed
use Rattle.bus.proofs.interrupter.Interrupter.generating.Reads as bus-generating
use Rattle.bus.proofs.interrupter.Interrupter.released.Reads as bus-released
use Rattle.bus.proofs.interrupter.Interrupter.cleared.Reads as bus-cleared
use Rattle.bus.proofs.interrupter.Interrupter.raised.Reads as bus-raised
use Rattle.bus.proofs.interrupter.Interrupter.levelled.Reads as bus-levelled
use Rattle.bus.proofs.interrupter.Interrupter.vectored.Reads as bus-vectored
use Rattle.bus.proofs.numbered.Reads as bus-numbered
use Rattle.bus.proofs.Refusal.number.Reads as bus-number
use Rattle.bus.proofs.table.look_up.Reads as bus-look-up
use Rattle.benchlog.proofs.read_argument.Reads as benchlog-read-argument
use Rattle.benchlog.proofs.read_entry.Reads as benchlog-read-entry
use Rattle.benchlog.proofs.Fault.number.Reads as benchlog-number
use Rattle.benchlog.proofs.entries.FaultFromRefused.from.Reads as benchlog-from
use Rattle.benchlog.proofs.numbers_of.Reads as benchlog-numbers-of
use Rattle.benchlog.proofs.read_number.Reads as benchlog-read-number
use Rattle.layout.proofs.Refusal.number.Reads as layout-number
use Rattle.layout.proofs.EventDefault.default.Reads as layout-default
use Rattle.layout.proofs.numbered.Reads as layout-numbered
use Rattle.layout.proofs.Settings.event_length.Reads as layout-event-length
use Rattle.layout.proofs.Settings.events_in.Reads as layout-events-in
use Rattle.layout.proofs.read_event.Reads as layout-read-event
use Rattle.layout.proofs.write_event.Reads as layout-write-event
use Rattle.scaler.proofs.Scales.power_on.Reads as scaler-power-on
use Rattle.scaler.proofs.Scales.is_inhibited.Reads as scaler-is-inhibited
use Rattle.scaler.proofs.obey.Reads as scaler-obey
use Rattle.scaler.proofs.module.Outcome.refused.Reads as scaler-refused
use Rattle.scaler.proofs.module.Outcome.done.Reads as scaler-done
use Rattle.scaler.specs.contracts.module.Outcome.lent as scaler-lent
use Rattle.scaler.proofs.module.Scaler.scales.Reads as scaler-scales
use Rattle.scaler.proofs.module.Scaler.scaled.Reads as scaler-scaled
use Rattle.scaler.proofs.module.Scaler.register.Reads as scaler-register
use Rattle.scaler.proofs.module.Scaler.is_formed.Reads as scaler-is-formed
use Rattle.scaler.proofs.module.Scaler.is_unjoined.Reads as scaler-is-unjoined
use Rattle.scaler.proofs.module.Scaler.width.Reads as scaler-width
use Rattle.scaler.proofs.module.Scaler.is_ignored.Reads as scaler-is-ignored
use Rattle.scaler.proofs.module.Scaler.counts_after.Reads as scaler-counts-after
use Rattle.scaler.proofs.module.Scaler.watched.Reads as scaler-watched
use Rattle.scaler.proofs.module.Scaler.table.Reads as scaler-table
use Rattle.scaler.proofs.by_value.access.Reads as scaler-by-value-access
use Rattle.scaler.proofs.by_value.pulses.Reads as scaler-by-value-pulses
use Rattle.scaler.proofs.by_value.test.Reads as scaler-by-value-test
use Rattle.scaler.proofs.by_value.clear_line.Reads as scaler-by-value-clear-line
use Rattle.scaler.proofs.by_value.veto_line.Reads as scaler-by-value-veto-line
use Rattle.scaler.proofs.by_value.man_clr.Reads as scaler-by-value-man-clr
use Rattle.scaler.proofs.by_value.step.Reads as scaler-by-value-step
use Rattle.scaler.specs.contracts.in_place.access as scaler-in-place-access
use Rattle.scaler.specs.contracts.in_place.pulses as scaler-in-place-pulses
use Rattle.scaler.specs.contracts.in_place.test as scaler-in-place-test
use Rattle.scaler.specs.contracts.in_place.clear_line as scaler-in-place-clear-line
use Rattle.scaler.specs.contracts.in_place.veto_line as scaler-in-place-veto-line
use Rattle.scaler.specs.contracts.in_place.man_clr as scaler-in-place-man-clr
use Rattle.scaler.specs.contracts.in_place.step as scaler-in-place-step
use Rattle.v560.proofs.start.Reads as v560-start
use Rattle.v260.proofs.start.Reads as v260-start
use Rattle.v830.proofs.step.Reads as v830-step
use Rattle.v830.proofs.start.Reads as v830-start
use Rattle.v830.proofs.gate.Reads as v830-gate
use Rattle.v830.proofs.step_formed.Reads as v830-step-formed
use Rattle.meb.proofs.Store.empty.Reads as meb-empty
use Rattle.meb.proofs.Store.emptied.Reads as meb-emptied
use Rattle.meb.proofs.Store.fits.Reads as meb-fits
use Rattle.meb.proofs.Store.free.Reads as meb-free
use Rattle.meb.proofs.Store.hand_out.Reads as meb-hand-out
use Rattle.meb.proofs.Store.put.Reads as meb-put
use Rattle.logged.proofs.access_for.Reads as logged-access-for
use Rattle.logged.proofs.call_830_of.Reads as logged-call-830-of
use Rattle.modules.proofs.act.Reads as modules-act
use Rattle.modules.proofs.HeldFromOutcomeV260.from.Reads as modules-from-260
use Rattle.modules.proofs.HeldFromOutcomeV560.from.Reads as modules-from-560
use Rattle.modules.proofs.HeldFromV830Outcome.from.Reads as modules-from-830
use Rattle.modules.proofs.begin.Reads as modules-begin
use Rattle.modules.proofs.lent.Reads as modules-lent
use Rattle.modules.proofs.Which.named.Reads as modules-named
use Rattle.night.proofs.begin.Reads as night-begin
use Rattle.night.proofs.put_heading.Reads as night-put-heading
use Rattle.night.proofs.replay.Reads as night-replay
use Rattle.head.proofs.read_head.Reads as head-read-head
use Rattle.text.proofs.fits.Reads as text-fits
use Rattle.text.proofs.put_text.Reads as text-put-text
use Rattle.text.proofs.put_words.Reads as text-put-words
use Rattle.text.proofs.put_number.Reads as text-put-number
use Rattle.text.proofs.figures.Reads as text-figures
use Rattle.text.proofs.put_line.Reads as text-put-line
use Rattle.text.proofs.put_fault.Reads as text-put-fault
use Rattle.text.proofs.put_failed.Reads as text-put-failed
use Rattle.stdio.proofs.Listing.begin.Reads as stdio-begin
use Rattle.stdio.proofs.Listing.place.Reads as stdio-place
use Rattle.stdio.proofs.Listing.end.Reads as stdio-end
use Rattle.stdio.proofs.Listing.stop.Reads as stdio-stop
use Rattle.stdio.proofs.Listing.fault.Reads as stdio-fault
use Rattle.stdio.proofs.Listing.close.Reads as stdio-close

-- ---- count
pub one_count_tick : OneResult count-tick.Post
one_count_tick κ given first second e d p q = determined p q

pub one_count_bit_rose : OneResult count-bit-rose.Post
one_count_bit_rose κ given first second e d p q = determined p q

pub one_count_tick_each : OneContent count-tick-each.Post (λ κ e. e.1.0.now)
one_count_tick_each κ given first second e d p q = determined p q

-- ---- bus
pub one_bus_power_on : OneResult bus-power-on.Post
one_bus_power_on κ given first second e d p q = determined p q

pub one_bus_is_well_formed : OneResult bus-is-well-formed.Post
one_bus_is_well_formed κ given first second e d p q = determined p q

pub one_bus_generating : OneResult bus-generating.Post
one_bus_generating κ given first second e d p q = determined p q

pub one_bus_released : OneResult bus-released.Post
one_bus_released κ given first second e d p q = determined p q

pub one_bus_cleared : OneResult bus-cleared.Post
one_bus_cleared κ given first second e d p q = determined p q

pub one_bus_raised : OneResult bus-raised.Post
one_bus_raised κ given first second e d p q = determined p q

pub one_bus_levelled : OneResult bus-levelled.Post
one_bus_levelled κ given first second e d p q = determined p q

pub one_bus_vectored : OneResult bus-vectored.Post
one_bus_vectored κ given first second e d p q = determined p q

pub one_bus_numbered : OneResult bus-numbered.Post
one_bus_numbered κ given first second e d p q = determined p q

pub one_bus_number : OneResult bus-number.Post
one_bus_number κ given first second e d p q = determined p q

-- of a table of whatever registers: their type R, and how one is copied
module _ (R : RattleType) (l : Laws R) (y : IsCopy R) (c : clone.Ghosts R.Denot) (b : Dict) where
  pub one_bus_look_up : OneResult (bus-look-up.Post R l y c b)
  one_bus_look_up κ given first second e d p q = determined p q

-- ---- benchlog
pub one_benchlog_read_argument : OneResult benchlog-read-argument.Post
one_benchlog_read_argument κ given first second e d p q = determined p q

pub one_benchlog_read_entry : OneResult benchlog-read-entry.Post
one_benchlog_read_entry κ given first second e d p q = determined p q

pub one_benchlog_number : OneResult benchlog-number.Post
one_benchlog_number κ given first second e d p q = determined p q

pub one_benchlog_from : OneResult benchlog-from.Post
one_benchlog_from κ given first second e d p q = determined p q

pub one_benchlog_numbers_of : OneResult benchlog-numbers-of.Post
one_benchlog_numbers_of κ given first second e d p q = determined p q

pub one_benchlog_read_number : OneResult benchlog-read-number.Post
one_benchlog_read_number κ given first second e d p q = determined p q

-- ---- layout
pub one_layout_number : OneResult layout-number.Post
one_layout_number κ given first second e d p q = determined p q

pub one_layout_default : OneResult layout-default.Post
one_layout_default κ given first second e d p q = determined p q

pub one_layout_numbered : OneResult layout-numbered.Post
one_layout_numbered κ given first second e d p q = determined p q

pub one_layout_event_length : OneResult layout-event-length.Post
one_layout_event_length κ given first second e d p q = determined p q

pub one_layout_events_in : OneResult layout-events-in.Post
one_layout_events_in κ given first second e d p q = determined p q

pub one_layout_read_event : OneResult layout-read-event.Post
one_layout_read_event κ given first second e d p q = determined p q

pub one_layout_write_event : OneOutcome layout-write-event.Post (λ κ e. e.1.1.0.now)
one_layout_write_event κ given first second e d p q = (determined p.0 q.0, determined p.1 q.1)

-- ---- scaler
pub one_scaler_power_on : OneResult scaler-power-on.Post
one_scaler_power_on κ given first second e d p q = determined p q

pub one_scaler_is_inhibited : OneResult scaler-is-inhibited.Post
one_scaler_is_inhibited κ given first second e d p q = determined p q

pub one_scaler_obey : OneResult scaler-obey.Post
one_scaler_obey κ given first second e d p q = determined p q

module _ (T : RattleType) (l : Laws T) where
  pub one_scaler_refused : OneResult (scaler-refused.Post T l)
  one_scaler_refused κ given first second e d p q = determined p q

  pub one_scaler_done : OneResult (scaler-done.Post T l)
  one_scaler_done κ given first second e d p q = determined p q

  pub one_scaler_lent : {M : Type 1} → OneLent {M = M} (scaler-lent.ended T) (λ 𝓤. scaler-lent.clauses T {𝓤 = 𝓤}) (λ κ e. e.1.0.now)
  one_scaler_lent 𝓤 𝓛 mem run κ given x first second e d = both_determined 𝓤 _ _ _ _ _ _

-- of every module of sixteen scales, and so of the V260 and of the V560: its states T, what it has of its own and its
-- code, g and d, and how a state is copied
module _ (T : RattleType) (l : Laws T) (y : IsCopy T) (g : scaler.Ghosts T.Denot) (d : Dict) (c : clone.Ghosts T.Denot) (b : Dict) where
  pub one_scaler_scales : OneResult (scaler-scales.Post T l y g d c b)
  one_scaler_scales κ given first second e r p q = determined p q

  pub one_scaler_scaled : OneResult (scaler-scaled.Post T l y g d c b)
  one_scaler_scaled κ given first second e r p q = determined p q

  pub one_scaler_register : OneResult (scaler-register.Post T l y g d c b)
  one_scaler_register κ given first second e r p q = determined p q

  pub one_scaler_is_formed : OneResult (scaler-is-formed.Post T l y g d c b)
  one_scaler_is_formed κ given first second e r p q = determined p q

  pub one_scaler_is_unjoined : OneResult (scaler-is-unjoined.Post T l y g d c b)
  one_scaler_is_unjoined κ given first second e r p q = determined p q

  pub one_scaler_width : OneResult (scaler-width.Post T l y g d c b)
  one_scaler_width κ given first second e r p q = determined p q

  pub one_scaler_is_ignored : OneResult (scaler-is-ignored.Post T l y g d c b)
  one_scaler_is_ignored κ given first second e r p q = determined p q

  pub one_scaler_counts_after : OneResult (scaler-counts-after.Post T l y g d c b)
  one_scaler_counts_after κ given first second e r p q = determined p q

  pub one_scaler_watched : OneResult (scaler-watched.Post T l y g d c b)
  one_scaler_watched κ given first second e r p q = determined p q

  -- what is lent of the table; where it lies is not said
  pub one_scaler_table : (κ : _) (given : _) (first second : _) (e r : _) → scaler-table.Post T l y g d c b κ given first e → scaler-table.Post T l y g d c b κ given second r → first.now ≡ second.now
  one_scaler_table κ given first second e r p q = determined p q

  pub one_scaler_by_value_access : OneResult (scaler-by-value-access.Post T l y g d c b)
  one_scaler_by_value_access κ given first second e d p q = determined p q

  pub one_scaler_by_value_pulses : OneResult (scaler-by-value-pulses.Post T l y g d c b)
  one_scaler_by_value_pulses κ given first second e d p q = determined p q

  pub one_scaler_by_value_test : OneResult (scaler-by-value-test.Post T l y g d c b)
  one_scaler_by_value_test κ given first second e d p q = determined p q

  pub one_scaler_by_value_clear_line : OneResult (scaler-by-value-clear-line.Post T l y g d c b)
  one_scaler_by_value_clear_line κ given first second e d p q = determined p q

  pub one_scaler_by_value_veto_line : OneResult (scaler-by-value-veto-line.Post T l y g d c b)
  one_scaler_by_value_veto_line κ given first second e d p q = determined p q

  pub one_scaler_by_value_man_clr : OneResult (scaler-by-value-man-clr.Post T l y g d c b)
  one_scaler_by_value_man_clr κ given first second e d p q = determined p q

  pub one_scaler_by_value_step : OneResult (scaler-by-value-step.Post T l y g d c b)
  one_scaler_by_value_step κ given first second e d p q = determined p q

  pub one_scaler_in_place_access : {M : Type 1} → OneLent {M = M} (scaler-in-place-access.ended T g d c b) (λ 𝓤. scaler-in-place-access.clauses T g d c b {𝓤 = 𝓤}) (λ κ e. e.1.0.now)
  one_scaler_in_place_access 𝓤 𝓛 mem run κ given x first second e d = both_determined 𝓤 _ _ _ _ _ _

  pub one_scaler_in_place_pulses : {M : Type 1} → OneLent {M = M} (scaler-in-place-pulses.ended T g d c b) (λ 𝓤. scaler-in-place-pulses.clauses T g d c b {𝓤 = 𝓤}) (λ κ e. e.1.0.now)
  one_scaler_in_place_pulses 𝓤 𝓛 mem run κ given x first second e d = both_determined 𝓤 _ _ _ _ _ _

  pub one_scaler_in_place_test : {M : Type 1} → OneLent {M = M} (scaler-in-place-test.ended T g d c b) (λ 𝓤. scaler-in-place-test.clauses T g d c b {𝓤 = 𝓤}) (λ κ e. e.1.0.now)
  one_scaler_in_place_test 𝓤 𝓛 mem run κ given x first second e d = both_determined 𝓤 _ _ _ _ _ _

  pub one_scaler_in_place_clear_line : {M : Type 1} → OneLent {M = M} (scaler-in-place-clear-line.ended T g d c b) (λ 𝓤. scaler-in-place-clear-line.clauses T g d c b {𝓤 = 𝓤}) (λ κ e. e.1.0.now)
  one_scaler_in_place_clear_line 𝓤 𝓛 mem run κ given x first second e d = both_determined 𝓤 _ _ _ _ _ _

  pub one_scaler_in_place_veto_line : {M : Type 1} → OneLent {M = M} (scaler-in-place-veto-line.ended T g d c b) (λ 𝓤. scaler-in-place-veto-line.clauses T g d c b {𝓤 = 𝓤}) (λ κ e. e.1.0.now)
  one_scaler_in_place_veto_line 𝓤 𝓛 mem run κ given x first second e d = both_determined 𝓤 _ _ _ _ _ _

  pub one_scaler_in_place_man_clr : {M : Type 1} → OneLent {M = M} (scaler-in-place-man-clr.ended T g d c b) (λ 𝓤. scaler-in-place-man-clr.clauses T g d c b {𝓤 = 𝓤}) (λ κ e. e.1.0.now)
  one_scaler_in_place_man_clr 𝓤 𝓛 mem run κ given x first second e d = both_determined 𝓤 _ _ _ _ _ _

  pub one_scaler_in_place_step : {M : Type 1} → OneLent {M = M} (scaler-in-place-step.ended T g d c b) (λ 𝓤. scaler-in-place-step.clauses T g d c b {𝓤 = 𝓤}) (λ κ e. e.1.0.now)
  one_scaler_in_place_step 𝓤 𝓛 mem run κ given x first second e d = both_determined 𝓤 _ _ _ _ _ _

-- ---- v560
pub one_v560_start : OneResult v560-start.Post
one_v560_start κ given first second e d p q = determined p q

-- ---- v260
pub one_v260_start : OneResult v260-start.Post
one_v260_start κ given first second e d p q = determined p q

-- ---- v830
pub one_v830_step : OneOutcome v830-step.Post (λ κ e. e.1.0.now)
one_v830_step κ given first second e d p q = (determined p.0 q.0, determined p.1 q.1)

pub one_v830_start : OneResult v830-start.Post
one_v830_start κ given first second e d p q = determined p q

pub one_v830_gate : OneResult v830-gate.Post
one_v830_gate κ given first second e d p q = determined p q

-- the inner door, of what it is given where it may be called
pub one_v830_step_formed : OneOutcome v830-step-formed.Post (λ κ e. e.1.0.now)
one_v830_step_formed κ given first second e d p q = (determined p.0 q.0, determined p.1 q.1)

-- ---- meb
pub one_meb_empty : OneResult meb-empty.Post
one_meb_empty κ given first second e d p q = determined p q

pub one_meb_emptied : OneResult meb-emptied.Post
one_meb_emptied κ given first second e d p q = determined p q

pub one_meb_fits : OneResult meb-fits.Post
one_meb_fits κ given first second e d p q = determined p q

pub one_meb_free : OneResult meb-free.Post
one_meb_free κ given first second e d p q = determined p q

pub one_meb_hand_out : OneResult meb-hand-out.Post
one_meb_hand_out κ given first second e d p q = determined p q

pub one_meb_put : OneOutcome meb-put.Post (λ κ e. e.1.0.now)
one_meb_put κ given first second e d p q = (determined p.0 q.0, determined p.1 q.1)

-- ---- logged
pub one_logged_access_for : OneResult logged-access-for.Post
one_logged_access_for κ given first second e d p q = determined p q

pub one_logged_call_830_of : OneResult logged-call-830-of.Post
one_logged_call_830_of κ given first second e d p q = determined p q

-- ---- modules
pub one_modules_act : OneOutcome modules-act.Post (λ κ e. e.1.0.now)
one_modules_act κ given first second e d p q = (determined p.0 q.0, determined p.1 q.1)

-- of what a call of each of the three leaves
pub one_modules_from_260 : OneResult modules-from-260.Post
one_modules_from_260 κ given first second e d p q = determined p q

pub one_modules_from_560 : OneResult modules-from-560.Post
one_modules_from_560 κ given first second e d p q = determined p q

pub one_modules_from_830 : OneResult modules-from-830.Post
one_modules_from_830 κ given first second e d p q = determined p q

pub one_modules_begin : OneResult modules-begin.Post
one_modules_begin κ given first second e d p q = determined p q

pub one_modules_named : OneResult modules-named.Post
one_modules_named κ given first second e d p q = determined p q

pub one_modules_lent : OneResult modules-lent.Post
one_modules_lent κ given first second e d p q = determined p.0 q.0

-- ---- night
pub one_night_begin : OneResult night-begin.Post
one_night_begin κ given first second e d p q = determined p q

pub one_night_put_heading : OneOutcome night-put-heading.Post (λ κ e. e.0.now)
one_night_put_heading κ given first second e d p q = (determined p.0 q.0, determined p.1 q.1)

-- two slices are lent to it
pub one_night_replay : OneOutcome {A = λ κ. List ℕ × List ℕ} night-replay.Post (λ κ e. (e.1.0.now, e.1.1.1.1.0.now))
one_night_replay κ given first second e d p q =
    (determined p.0 q.0, ap₂ (λ (m o : List ℕ). (m, o)) (determined p.1 q.1) (determined p.2 q.2))

-- ---- head
pub one_head_read_head : OneResult head-read-head.Post
one_head_read_head κ given first second e d p q = determined p q

-- ---- text
pub one_text_fits : OneResult text-fits.Post
one_text_fits κ given first second e d p q = determined p q

pub one_text_put_text : OneOutcome text-put-text.Post (λ κ e. e.0.now)
one_text_put_text κ given first second e d p q = (determined p.0 q.0, determined p.1 q.1)

pub one_text_put_words : OneOutcome text-put-words.Post (λ κ e. e.0.now)
one_text_put_words κ given first second e d p q = (determined p.0 q.0, determined p.1 q.1)

pub one_text_put_number : OneOutcome text-put-number.Post (λ κ e. e.0.now)
one_text_put_number κ given first second e d p q = (determined p.0 q.0, determined p.1 q.1)

pub one_text_figures : OneResult text-figures.Post
one_text_figures κ given first second e d p q = determined p q

pub one_text_put_line : OneOutcome text-put-line.Post (λ κ e. e.0.now)
one_text_put_line κ given first second e d p q = (determined p.0 q.0, determined p.1 q.1)

pub one_text_put_fault : OneOutcome text-put-fault.Post (λ κ e. e.0.now)
one_text_put_fault κ given first second e d p q = (determined p.0 q.0, determined p.1 q.1)

pub one_text_put_failed : OneOutcome text-put-failed.Post (λ κ e. e.0.now)
one_text_put_failed κ given first second e d p q = (determined p.0 q.0, determined p.1 q.1)

-- ---- stdio
pub one_stdio_begin : OneResult stdio-begin.Post
one_stdio_begin κ given first second e d p q = determined p q

pub one_stdio_place : OneResult stdio-place.Post
one_stdio_place κ given first second e d p q = determined p q

pub one_stdio_end : OneOutcome stdio-end.Post (λ κ e. e.1.0.now)
one_stdio_end κ given first second e d p q = (determined p.0 q.0, determined p.1 q.1)

pub one_stdio_stop : OneResult stdio-stop.Post
one_stdio_stop κ given first second e d p q = determined p q

pub one_stdio_fault : OneOutcome stdio-fault.Post (λ κ e. e.1.0.now)
one_stdio_fault κ given first second e d p q = (determined p.0 q.0, determined p.1 q.1)

pub one_stdio_close : OneContent stdio-close.Post (λ κ e. e.1.1.0.now)
one_stdio_close κ given first second e d p q = determined p q
