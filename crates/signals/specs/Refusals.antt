-- Document 01, "Refusal numbers": the number of each refusal, and the limits that several calls share. Assumes nothing.
use Rattle.std.specs.Prelude.{ℕ, Bool, true, false, List, Result, Ok, Err}
use Rattle.std.specs.List.{list_any}
use Rattle.std.proofs.Math.Option.{Option, none, some}
use Rattle.signals.specs.declared.Refusal.{Refusal}
use Rattle.signals.specs.declared.Refusal.TheVariants.{LengthsDiffer, IllegalBits, TooLong, BadDepth, BadCount, BadState, OutputTooShort, OutOfRange, BadText, BadMask, OverwritesItself, NotThePlan}

-- the table's first column
abbrev pub number_of : Refusal → ℕ
number_of LengthsDiffer = 1
number_of IllegalBits = 2
number_of TooLong = 3
number_of BadDepth = 4
number_of BadCount = 5
number_of BadState = 6
number_of OutputTooShort = 7
number_of OutOfRange = 8
number_of BadText = 9
number_of BadMask = 10
number_of OverwritesItself = 11
number_of NotThePlan = 12

-- the number that an answer gives, if it is a refusal
abbrev pub refusal_of : {A : Type 0} → Result A Refusal → Option ℕ
refusal_of (Ok answer) = none
refusal_of (Err why) = some (number_of why)

abbrev pub accepts : (refusal : Option ℕ) → Bool
accepts none = true
accepts (some n) = false

-- how many cycles a trace may hold
abbrev pub max_cycles : ℕ
max_cycles = 65536

-- some entry has a property; it is looked for in the whole input
abbrev pub any_of : {A : Type 0} → (A → Bool) → List A → Bool
any_of has xs = list_any has xs
