-- Document 01, "Counting" and "V830 store": what pulses, TEST, CLEAR and writes of Control do to the counters.
-- Assumes nothing.
use Rattle.std.specs.Prelude.{ℕ, cond, map, ltb, get_or, set}
use Rattle.bus.specs.declared.Refusal.TheVariants.{NoChannel}
use Rattle.count.specs.Counter.{next, iterate}
use Rattle.meb.specs.Stores.{emptied}
use Rattle.v830.specs.declared.Outcome.{Outcome}
use Rattle.v830.specs.declared.deeds.Source.{Source}
use Rattle.v830.specs.declared.V830.{V830}
use Rattle.v830.specs.State.{counting, controlling, storing, tallying, with_triggers, is_set, zeros}
use Rattle.v830.specs.Outcomes.{done, unless}

-- one pulse on input k: "V830 VETO stops inputs"; "Disabled channels still count."
abbrev pub pulse : ℕ → V830 → V830
pulse k s = cond s.veto s (counting (set s.counts k (next 32 (get_or s.counts k 0))) s)

-- "n pulses given at once are n single pulses; 0 pulses are answered 0"; 11: channel not below 32
abbrev pub pulsed : ℕ → ℕ → V830 → Outcome
pulsed k n s = unless (ltb k 32) NoChannel s (done 0 (iterate n (pulse k) s))

-- "and not TEST"; "TEST adds one to each channel"
abbrev pub tested : V830 → V830
tested s = counting (map (next 32) s.counts) s

-- "CLEAR, by line or register, zeroes the counters and, with bit 6, empties the memory."
abbrev pub cleared : Source → V830 → V830
cleared by s = counting zeros (storing (cond (is_set 6 s.control) (emptied s.store) s.store) s)

-- "Any of these three writes also zeroes counters and Trigger Counter and empties the memory."
abbrev pub restarted : ℕ → V830 → V830
restarted control s = counting zeros (tallying (with_triggers 0 s.tallies) (storing (emptied s.store) (controlling control s)))
