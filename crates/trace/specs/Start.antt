-- How a trace begins; docs/FORMATS.md, `trace`: "a head of numbers .. The head's first number names the module."
-- Assumes nothing.
use Rattle.std.specs.Prelude.{ℕ, ◌-◌, ◌^◌, Option, Some, None, List, [], ◌∷◌, Result, Ok, Err, replicate, slice_index}
use Rattle.benchlog.specs.declared.Fault.{Fault}
use Rattle.benchlog.specs.declared.Fault.TheVariants.{NoSuchKind}
use Rattle.head.specs.declared.Head.{Head}
use Rattle.head.specs.Heads.{head_of}
use Rattle.modules.specs.declared.Which.{Which}
use Rattle.modules.specs.declared.Which.TheVariants.{V260, V560, V830}
use Rattle.modules.specs.Heads.{named}

-- no limit
abbrev pub any : ℕ
any = 2 ^ 32 - 1

-- the limits of a head's numbers: "260 joined interrupts jumpers level c0 .. c15": `joined` and `interrupts` "below
-- 65,536", `jumpers` "below 4"; "560 joined c0 .. c15": `joined` "below 256"; "830 geo capacity c0 .. c31": `geo` "any
-- number", `capacity` "0 to 40,000"
abbrev pub limits_of : Which → List ℕ
limits_of V260 = any ∷ 65535 ∷ 65535 ∷ 3 ∷ replicate 17 any
limits_of V560 = any ∷ 255 ∷ replicate 16 any
limits_of V830 = any ∷ any ∷ 40000 ∷ replicate 32 any

-- a head, with the module that it names
abbrev pub with : Which → Result Head Fault → Result (Which × Head) Fault
with which (Err fault) = Err fault
with which (Ok head) = Ok (which, head)

-- the head, where its first number names this module; 33 "for another module"
abbrev pub head_named : List ℕ → Option Which → Result (Which × Head) Fault
head_named log None = Err NoSuchKind
head_named log (Some which) = with which (head_of log (limits_of which))

-- the head of an input: "each as soon as its number is read", so the first one before all
abbrev pub by_its_name : List ℕ → Result Head Fault → Result (Which × Head) Fault
by_its_name log (Err fault) = Err fault
by_its_name log (Ok name) = head_named log (named (slice_index name.values 0))

abbrev pub head_in : List ℕ → Result (Which × Head) Fault
head_in log = by_its_name log (head_of log (any ∷ []))
