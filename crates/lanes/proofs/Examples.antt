-- Merge and split at work on two and on four lanes, what is refused, and a branch that waits for valid. Everything computes from the
-- definitions. Assumes nothing.
use Prim.Native.Nat.{ℕ}
use native.Mathlib.Omega.{arith}
use mathlib.Core.Bool.{true, false, false≢true}
use mathlib.Core.List.{List, [], ◌∷◌, map}
use mathlib.Core.Option.{none, some}
use mathlib.Core.Path.{◌≡◌, refl}
use Rattle.signals.specs.declared.Payload.{Payload}
use Rattle.lanes.specs.declared.Offer.{Offer}
use Rattle.lanes.specs.declared.Wide.{Wide}
use Rattle.lanes.specs.Offers.{no_offer, offer_at}
use Rattle.lanes.specs.Wide.{lane, wide_zeros}
use Rattle.lanes.specs.Merge as ofMerge
use Rattle.lanes.specs.Split as ofSplit
use Rattle.lanes.specs.Keeping.{Splitting, split_in}
use Rattle.lanes.specs.Waiting.{Waits}
use Rattle.lanes.proofs.Waiting.{one_waiting_stops_all_lem}

abbrev payload : (word strb : ℕ) → Payload
payload word strb = record { «data» = word; strb = strb }

abbrev offering : (word strb : ℕ) → Offer
offering word strb = record { valid = true; payload = payload word strb }

abbrev idle : (word strb : ℕ) → Offer
idle word strb = record { valid = false; payload = payload word strb }

-- words 7 and 8, all bytes of the first and two bytes of the second; behind them inputs that are not read
abbrev two : List Offer
two = offering 7 15 ∷ offering 8 3 ∷ offering 9 255 ∷ idle 9 255 ∷ []

abbrev four : List Offer
four = offering 7 15 ∷ offering 8 3 ∷ offering 9 0 ∷ offering 10 8 ∷ []

-- ---- merge

-- strb 15 + 3 * 16, in bits 0011 1111
two_merged : ofMerge.answer 2 two true ≡
    record {
      refusal = none;
      outputs = record { valid = true; wide = record { «data» = 7 ∷ 8 ∷ 0 ∷ 0 ∷ []; strb = 63 }; readies = true ∷ true ∷ false ∷ false ∷ [] };
    }
unfolding ofMerge.answer
two_merged = refl

-- 8 * 4096 + 0 * 256 + 3 * 16 + 15
four_merged : ofMerge.answer 4 four true ≡
    record {
      refusal = none;
      outputs = record { valid = true; wide = record { «data» = 7 ∷ 8 ∷ 9 ∷ 10 ∷ []; strb = 32831 }; readies = true ∷ true ∷ true ∷ true ∷ [] };
    }
unfolding ofMerge.answer
four_merged = refl

-- the output is not ready: it is shown, and no input is taken
two_stalled : ofMerge.answer 2 two false ≡
    record {
      refusal = none;
      outputs = record { valid = true; wide = record { «data» = 7 ∷ 8 ∷ 0 ∷ 0 ∷ []; strb = 63 }; readies = false ∷ false ∷ false ∷ false ∷ [] };
    }
unfolding ofMerge.answer
two_stalled = refl

-- one input is not valid: nothing is shown, and none of the others is taken
one_missing : ofMerge.answer 2 (offering 7 15 ∷ idle 8 3 ∷ []) true ≡
    record { refusal = none; outputs = record { valid = false; wide = wide_zeros; readies = false ∷ false ∷ false ∷ false ∷ [] } }
unfolding ofMerge.answer
one_missing = refl

-- ---- split

-- word 9 lies past the two lanes
abbrev wide : Wide
wide = record { «data» = 7 ∷ 8 ∷ 9 ∷ 9 ∷ []; strb = 63 }

two_split : ofSplit.answer 2 true wide (true ∷ true ∷ false ∷ false ∷ []) ≡
    record { refusal = none; outputs = record { ready = true; branches = offering 7 15 ∷ offering 8 3 ∷ no_offer ∷ no_offer ∷ [] } }
unfolding ofSplit.answer
two_split = refl

-- one branch is not ready: none is offered anything
one_not_ready : ofSplit.answer 2 true wide (true ∷ false ∷ true ∷ true ∷ []) ≡
    record { refusal = none; outputs = record { ready = false; branches = no_offer ∷ no_offer ∷ no_offer ∷ no_offer ∷ [] } }
unfolding ofSplit.answer
one_not_ready = refl

-- the source is not valid: it gets ready all the same
source_idle : ofSplit.answer 2 false wide (true ∷ true ∷ false ∷ false ∷ []) ≡
    record { refusal = none; outputs = record { ready = true; branches = no_offer ∷ no_offer ∷ no_offer ∷ no_offer ∷ [] } }
unfolding ofSplit.answer
source_idle = refl

four_lanes : map (lane (record { «data» = 7 ∷ 8 ∷ 9 ∷ 10 ∷ []; strb = 32831 })) (0 ∷ 1 ∷ 2 ∷ 3 ∷ []) ≡
    payload 7 15 ∷ payload 8 3 ∷ payload 9 0 ∷ payload 10 8 ∷ []
four_lanes = refl

-- ---- refused

-- three lanes, also with a strobe that is not legal
three_lanes : (ofMerge.answer 3 (offering 7 16 ∷ []) true).refusal ≡ some 5
unfolding ofMerge.answer
three_lanes = refl

-- a strobe above 15, also where valid is 0, but not past the lanes, as in `two_merged`
strobe_16 : ofMerge.answer 2 (offering 7 15 ∷ idle 8 16 ∷ []) true ≡ record { refusal = some 2; outputs = ofMerge.zeros }
unfolding ofMerge.answer
strobe_16 = refl

-- a strobe of lane 2, also where valid is 0, but not with four lanes
strobe_of_lane_2 : ofSplit.answer 2 false (record { «data» = []; strb = 256 }) [] ≡ record { refusal = some 2; outputs = ofSplit.zeros }
unfolding ofSplit.answer
strobe_of_lane_2 = refl

strobe_of_four : (ofSplit.answer 4 false (record { «data» = []; strb = 256 }) []).refusal ≡ none
unfolding ofSplit.answer
strobe_of_four = refl

-- ---- a branch that waits

-- Branch 0 is ready in every cycle and branch 1 waits for valid, which it never sees; so branch 0 sees nothing either.
abbrev waiting : ℕ → Splitting
waiting c = record { valid = true; wide = wide; readies = true ∷ false ∷ [] }

one_waits : Waits 2 waiting 1
one_waits c e = absurd (false≢true e)

branch_0_starves : (c : ℕ) → offer_at (split_in 2 waiting c).branches 0 ≡ no_offer
branch_0_starves c = (one_waiting_stops_all_lem 2 waiting 1 (omega arith) one_waits c).1 0
