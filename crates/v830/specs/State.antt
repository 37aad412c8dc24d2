-- Document 01, "V830 store" and number 12: what the registers of a V830 mean, and which records are malformed.
-- Assumes nothing.
use Rattle.std.specs.Prelude.{ℕ, ◌%◌, Bool, true, false, cond, ◌&&◌, ◌||◌, not, List, Option, Some, None, eqb, leb, replicate, is_some}
use Rattle.count.specs.Counter.{bit}
use Rattle.layout.specs.declared.Settings.{Settings}
use Rattle.layout.specs.Length.{event_length}
use Rattle.meb.specs.declared.Store.{Store}
use Rattle.meb.specs.Stores.{empty_of, fits}
use Rattle.v830.specs.declared.Tallies.{Tallies}
use Rattle.v830.specs.declared.state.Mode.{Mode}
use Rattle.v830.specs.declared.state.Mode.TheVariants.{Disabled, Random, Periodical}
use Rattle.v830.specs.declared.V830.{V830}

-- the module with another part: its counts, Channel Enable, Control, the VETO line, the event memory, what is tallied
abbrev pub counting : List ℕ → V830 → V830
counting counts s =
    record { counts = counts; enable = s.enable; geo = s.geo; store = s.store; tallies = s.tallies; control = s.control; veto = s.veto }

abbrev pub enabling : ℕ → V830 → V830
enabling enable s =
    record { counts = s.counts; enable = enable; geo = s.geo; store = s.store; tallies = s.tallies; control = s.control; veto = s.veto }

abbrev pub controlling : ℕ → V830 → V830
controlling control s =
    record { counts = s.counts; enable = s.enable; geo = s.geo; store = s.store; tallies = s.tallies; control = control; veto = s.veto }

abbrev pub vetoed : Bool → V830 → V830
vetoed on s =
    record { counts = s.counts; enable = s.enable; geo = s.geo; store = s.store; tallies = s.tallies; control = s.control; veto = on }

abbrev pub storing : Store → V830 → V830
storing store s =
    record { counts = s.counts; enable = s.enable; geo = s.geo; store = store; tallies = s.tallies; control = s.control; veto = s.veto }

abbrev pub tallying : Tallies → V830 → V830
tallying tallies s =
    record { counts = s.counts; enable = s.enable; geo = s.geo; store = s.store; tallies = tallies; control = s.control; veto = s.veto }

-- the tallies with another Trigger Counter
abbrev pub with_triggers : ℕ → Tallies → Tallies
with_triggers n t = record { triggers = n }

-- "Control bits: 0 and 1 mode, as a number with bit 1 high (0 disabled, 1 random, 2 periodical)"; there is no mode 3
abbrev pub mode_numbered : ℕ → Option Mode
mode_numbered n = cond (eqb n 0) (Some Disabled) (cond (eqb n 1) (Some Random) (cond (eqb n 2) (Some Periodical) None))

abbrev pub mode : ℕ → Option Mode
mode control = mode_numbered (control % 4)

abbrev pub is_random : Option Mode → Bool
is_random None = false
is_random (Some Disabled) = false
is_random (Some Random) = true
is_random (Some Periodical) = false

-- "2 short format; 3 test; 4 BERR; 5 header; 6 CLEAR empties the memory; 7 AUTO RESET"
abbrev pub is_set : ℕ → ℕ → Bool
is_set k control = eqb (bit control k) 1

-- what fixes the layout of the events that are stored now
abbrev pub settings : V830 → Settings
settings s = record { header = is_set 5 s.control; short = is_set 2 s.control; enable = s.enable }

-- the counters at 0
abbrev pub zeros : List ℕ
zeros = replicate 32 0

-- 12: "words stored while the event length is 0"
abbrev pub explained : V830 → Bool
explained s = eqb s.store.stored.0 0 || not (eqb (event_length (settings s)) 0)

-- 12: "GEO above 31", a store out of its bounds, that, and "mode bits both 1"; a count of 32 bits is never above its
-- width
unfoldable pub formed : V830 → Bool
formed s = leb s.geo 31 && fits s.store && explained s && is_some (mode s.control)

-- power-on with this Control: Channel Enable "all ones", since section 3.6 of 002 is silent; counters, Trigger
-- Counter and memory empty, VETO off
abbrev pub power_on : ℕ → ℕ → ℕ → V830
power_on control geo capacity =
    record {
      counts = zeros;
      enable = 0xFFFFFFFF;
      geo = geo;
      store = empty_of capacity;
      tallies = record { triggers = 0 };
      control = control;
      veto = false;
    }
