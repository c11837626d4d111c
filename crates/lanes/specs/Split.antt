-- Request T-01: one cycle of a split. Its source gets ready exactly when all branches are ready, and every branch is offered its lane
-- exactly when the source is valid too. Assumes nothing.
use Rattle.std.specs.Prelude.{ℕ, ◌^◌, Bool, false, not, ◌&&◌, List, [], ◌∷◌, leb, get_or}
use Rattle.signals.specs.Sequences.{every_below}
use Rattle.signals.specs.Tables.{Row, ◌⇐◌, first_applying}
use Rattle.lanes.specs.declared.SplitCycle.{SplitCycle}
use Rattle.lanes.specs.declared.Wide.{Wide}
use Rattle.lanes.specs.Answers.{Answer, answer_by}
use Rattle.lanes.specs.Lanes.{legal_lanes, per_lane}
use Rattle.lanes.specs.Offers.{no_offer, offer_when}
use Rattle.lanes.specs.Wide.{lane}

-- branch i's ready
abbrev pub ready_at : List Bool → ℕ → Bool
ready_at readies i = get_or readies i false

-- of the first `lanes` branches, which alone are read
abbrev pub all_ready : (lanes : ℕ) → (readies : List Bool) → Bool
all_ready lanes readies = every_below (ready_at readies) lanes

-- a wide strb bit past the lanes is set, which is one from 4 times their number on
abbrev pub strobe_past : (lanes : ℕ) → Wide → Bool
strobe_past lanes wide = leb (16 ^ lanes) wide.strb

-- a cycle that is not refused: the ready of its source, and what each branch is offered
abbrev pub cycle : (lanes : ℕ) → (valid : Bool) → Wide → (readies : List Bool) → SplitCycle
cycle lanes valid wide readies =
    record {
      ready = all_ready lanes readies;
      branches = per_lane lanes no_offer (λ i. offer_when (valid && all_ready lanes readies) (lane wide i));
    }

-- every output is 0
abbrev pub zeros : SplitCycle
zeros = record { ready = false; branches = per_lane 0 no_offer (λ i. no_offer) }

-- the grounds for refusing it, in the order in which they are tried
abbrev pub grounds : (lanes : ℕ) → Wide → List (Row ℕ)
grounds lanes wide = 5 ⇐ not (legal_lanes lanes) ∷ 2 ⇐ strobe_past lanes wide ∷ []

-- what `split` answers to any source and branches
unfoldable pub answer : (lanes : ℕ) → (valid : Bool) → Wide → (readies : List Bool) → Answer SplitCycle
answer lanes valid wide readies = answer_by (first_applying (grounds lanes wide)) zeros (cycle lanes valid wide readies)
