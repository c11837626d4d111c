-- Requests T-05 and T-09: a burst, the grounds for refusing it, and the record after it. Assumes nothing.
use Rattle.std.specs.Prelude.{ℕ, ◌+◌, not, List, [], ◌∷◌, eqb, ltb, length, Result, Ok, Err}
use Rattle.std.proofs.Math.Option.{Option, none, some}
use Rattle.signals.specs.Refusals.{any_of}
use Rattle.signals.specs.Stream.{sample_at, reserved_bit}
use Rattle.signals.specs.Tables.{Row, ◌⇐◌, first_applying}
use Rattle.signals.specs.declared.Refusal.{Refusal}
use Rattle.signals.specs.declared.Refusal.TheVariants.{LengthsDiffer, TooLong, BadState, IllegalBits}
use Rattle.monitor.specs.declared.Monitor.{Monitor}
use Rattle.monitor.specs.Cycle.{after_cycles}
use Rattle.monitor.specs.Record.{legal}

-- how many cycles a record may have seen in all
abbrev pub max_seen : ℕ
max_seen = 4294967295

-- the grounds for refusing a burst, in the order in which they are tried: 1, 3, 6, 2
abbrev pub grounds : Monitor → (controls words : List ℕ) → List (Row Refusal)
grounds m controls words =
    LengthsDiffer ⇐ not (eqb (length controls) (length words))
    ∷ TooLong ⇐ ltb max_seen (m.cycles + length controls)
    ∷ BadState ⇐ not (legal m)
    ∷ IllegalBits ⇐ any_of reserved_bit controls
    ∷ []

-- the ground for which a burst is refused, if it is
abbrev pub ground_of : Result (Unit {0}) Refusal → Option Refusal
ground_of (Ok accepted) = none
ground_of (Err why) = some why

-- the next record, unless there is a ground
abbrev pub next_unless : (ground : Option Refusal) → (next : Monitor) → Result Monitor Refusal
next_unless none next = Ok next
next_unless (some why) next = Err why

-- what a record is fed with a burst: its cycles one after another, or, refused, nothing
unfoldable pub fed_by : Monitor → (controls words : List ℕ) → Result Monitor Refusal
fed_by m controls words =
    next_unless (first_applying (grounds m controls words)) (after_cycles m (sample_at controls words) (length controls))

-- the record that a burst leaves: the next, or, refused, the one before
abbrev pub left_by : (before : Monitor) → (fed : Result Monitor Refusal) → Monitor
left_by before (Ok next) = next
left_by before (Err why) = before

-- and how it ends
abbrev pub outcome_of : (fed : Result Monitor Refusal) → Result (Unit {0}) Refusal
outcome_of (Ok next) = Ok tt
outcome_of (Err why) = Err why
