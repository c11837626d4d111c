-- Request T-01: split after merge gives back the payloads and their order. The merge's output is the split's source in the same cycle.
-- `proofs/Wired.antt` has the proofs. Assumes nothing.
use Rattle.std.specs.Prelude.{ℕ, ◌<◌, ◌≤◌, ◌^◌, Bool, true, cond, ◌&&◌, List, [], ◌∷◌, ◌++◌, ◌≡◌, length, get_or}
use Rattle.signals.specs.declared.Payload.{Payload}
use Rattle.signals.specs.Payloads.{legal_strb}
use Rattle.lanes.specs.declared.MergeCycle.{MergeCycle}
use Rattle.lanes.specs.declared.Offer.{Offer}
use Rattle.lanes.specs.declared.SplitCycle.{SplitCycle}
use Rattle.lanes.specs.declared.Wide.{Wide}
use Rattle.lanes.specs.Lanes.{max_lanes}
use Rattle.lanes.specs.Offers.{offer_at}
use Rattle.lanes.specs.Wide.{lane, together}
use Rattle.lanes.specs.Merge as ofMerge
use Rattle.lanes.specs.Split as ofSplit
use Rattle.lanes.specs.Split.{ready_at}

-- One cycle of the two: the merge is given the split's ready, and the split what the merge shows.
pub record Cycle (lanes : ℕ) : Type 0 where
  pub inputs : List Offer
  pub readies : List Bool
  pub merge : MergeCycle
  pub split : SplitCycle
  pub merges : merge ≡ (ofMerge.answer lanes inputs split.ready).outputs
  pub splits : split ≡ (ofSplit.answer lanes merge.valid merge.wide readies).outputs

-- the payload that is handed over, if there is a handshake
abbrev pub handed : Offer → (ready : Bool) → List Payload
handed offer ready = cond (offer.valid && ready) (offer.payload ∷ []) []

module _ {lanes : ℕ} where
  -- what input i hands over in a cycle, and what branch i is handed
  abbrev pub from_input : ℕ → Cycle lanes → List Payload
  from_input i c = handed (offer_at c.inputs i) (ready_at c.merge.readies i)

  abbrev pub to_branch : ℕ → Cycle lanes → List Payload
  to_branch i c = handed (offer_at c.split.branches i) (ready_at c.readies i)

  -- in one cycle after the other
  abbrev pub over_cycles : (Cycle lanes → List Payload) → List (Cycle lanes) → List Payload
  over_cycles payloads [] = []
  over_cycles payloads (c ∷ cs) = payloads c ++ over_cycles payloads cs

-- Each branch is handed its input's payload in the cycle in which the input hands it over, and in no other; refused cycles are cycles.
abbrev pub SameCycle : Type 0
SameCycle = (lanes i : ℕ) (c : Cycle lanes) → to_branch i c ≡ from_input i c

-- So over any list of cycles each branch's payloads are its input's, in order.
abbrev pub SameOrder : Type 0
SameOrder = (lanes i : ℕ) (cs : List (Cycle lanes)) → over_cycles (to_branch i) cs ≡ over_cycles (from_input i) cs

-- There is such a cycle for whatever is offered and whichever branches are ready.
abbrev pub Wires : Type 0
Wires = (lanes : ℕ) (inputs : List Offer) (readies : List Bool) → (c : Cycle lanes) × (c.inputs ≡ inputs) × (c.readies ≡ readies)

-- Of payloads alone: lanes that are put together and taken apart are the lanes.
abbrev pub ApartIsEach : Type 0
ApartIsEach =
    (lanes : ℕ) (payload : ℕ → Payload) → lanes ≤ max_lanes → ((i : ℕ) → i < lanes → legal_strb (payload i) ≡ true) →
    (i : ℕ) → i < lanes → lane (together lanes payload) i ≡ payload i

-- And a wide payload that shows 0 past the lanes is its lanes put together.
abbrev pub TogetherIsWhole : Type 0
TogetherIsWhole =
    (lanes : ℕ) (w : Wide) → lanes ≤ max_lanes → length w.«data» ≡ max_lanes →
    ((i : ℕ) → lanes ≤ i → get_or w.«data» i 0 ≡ 0) → w.strb < 16 ^ lanes → together lanes (lane w) ≡ w
