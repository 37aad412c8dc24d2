-- The numbers of a line; docs/FORMATS.md, `trace`: "Line 1 names the columns". Assumes nothing.
use Rattle.std.specs.Prelude.{ℕ, Bool, true, false, List, [], ◌∷◌, ◌++◌}
use Rattle.bus.specs.declared.interrupter.Interrupter.{Interrupter}
use Rattle.bus.specs.Answers.{Answer, number_of, value_of}
use Rattle.scaler.specs.declared.Scales.{Scales}
use Rattle.v260.specs.declared.V260.{V260}
use Rattle.v560.specs.declared.V560.{V560}
use Rattle.v830.specs.declared.V830.{V830}

-- "What is on or off is 1 or 0."
abbrev pub one_or_zero : Bool → ℕ
one_or_zero true = 1
one_or_zero false = 0

-- `answer value enabled requested level vector line vme`
abbrev pub first_of : Answer → Interrupter → Scales → List ℕ
first_of answer i s =
    number_of answer ∷ value_of answer
    ∷ one_or_zero i.enabled ∷ one_or_zero i.requested ∷ i.level ∷ i.vector
    ∷ one_or_zero s.line ∷ one_or_zero s.vme ∷ []

-- `sections latch`
abbrev pub own_of : V560 → List ℕ
own_of s = s.sections ∷ one_or_zero s.latch ∷ []

-- `entry answer .. vme c0 .. c15 l0 .. l15`
abbrev pub numbers260 : ℕ → Answer → V260 → Interrupter → List ℕ
numbers260 entry answer s i =
    (entry ∷ first_of answer i s.scales) ++ s.scales.counts ++ s.scales.latches

-- `entry answer .. vme sections latch c0 .. c15 l0 .. l15`
abbrev pub numbers560 : ℕ → Answer → V560 → Interrupter → List ℕ
numbers560 entry answer s i =
    (entry ∷ first_of answer i s.scales) ++ own_of s ++ s.scales.counts ++ s.scales.latches

-- `answer value geo control enable triggers veto capacity first stored`
abbrev pub first_of830 : Answer → V830 → List ℕ
first_of830 answer s =
    number_of answer ∷ value_of answer
    ∷ s.geo ∷ s.control ∷ s.enable ∷ s.tallies.triggers ∷ one_or_zero s.veto
    ∷ s.store.capacity.0 ∷ s.store.first ∷ s.store.stored.0 ∷ []

-- `entry answer .. stored c0 .. c31`
abbrev pub numbers830 : ℕ → Answer → V830 → List ℕ
numbers830 entry answer s = (entry ∷ first_of830 answer s) ++ s.counts
