-- Request T-01: one cycle of a merge. It shows valid when all inputs are valid, and each input gets ready when the output is ready and
-- all inputs are valid. Assumes nothing.
use Rattle.std.specs.Prelude.{ℕ, Bool, false, cond, not, ◌&&◌, List, [], ◌∷◌}
use Rattle.signals.specs.declared.Payload.{Payload}
use Rattle.signals.specs.Payloads.{legal_strb}
use Rattle.signals.specs.Sequences.{every_below}
use Rattle.signals.specs.Tables.{Row, ◌⇐◌, first_applying}
use Rattle.lanes.specs.declared.MergeCycle.{MergeCycle}
use Rattle.lanes.specs.declared.Offer.{Offer}
use Rattle.lanes.specs.Answers.{Answer, answer_by}
use Rattle.lanes.specs.Lanes.{legal_lanes, per_lane}
use Rattle.lanes.specs.Offers.{offer_at}
use Rattle.lanes.specs.Wide.{together, wide_zeros}

-- the payload of input i
abbrev pub payload_at : List Offer → ℕ → Payload
payload_at inputs i = (offer_at inputs i).payload

-- of the first `lanes` inputs, which alone are read
abbrev pub all_valid : (lanes : ℕ) → List Offer → Bool
all_valid lanes inputs = every_below (λ i. (offer_at inputs i).valid) lanes

abbrev pub legal_strobes : (lanes : ℕ) → List Offer → Bool
legal_strobes lanes inputs = every_below (λ i. legal_strb (payload_at inputs i)) lanes

-- a cycle that is not refused: what it shows its output, and the ready of each input
abbrev pub cycle : (lanes : ℕ) → (inputs : List Offer) → (ready : Bool) → MergeCycle
cycle lanes inputs ready =
    record {
      valid = all_valid lanes inputs;
      wide = cond (all_valid lanes inputs) (together lanes (payload_at inputs)) wide_zeros;
      readies = per_lane lanes false (λ i. ready && all_valid lanes inputs);
    }

-- every output is 0
abbrev pub zeros : MergeCycle
zeros = record { valid = false; wide = wide_zeros; readies = per_lane 0 false (λ i. false) }

-- the grounds for refusing it, in the order in which they are tried
abbrev pub grounds : (lanes : ℕ) → (inputs : List Offer) → List (Row ℕ)
grounds lanes inputs = 5 ⇐ not (legal_lanes lanes) ∷ 2 ⇐ not (legal_strobes lanes inputs) ∷ []

-- what `merge` answers to any inputs
unfoldable pub answer : (lanes : ℕ) → (inputs : List Offer) → (ready : Bool) → Answer MergeCycle
answer lanes inputs ready = answer_by (first_applying (grounds lanes inputs)) zeros (cycle lanes inputs ready)
