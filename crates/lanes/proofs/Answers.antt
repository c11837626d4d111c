-- What a merge and a split answer: a cycle by its parts, or a refusal, by the grounds one after the other. Idea: by cases of the two
-- grounds. Assumes nothing.
use Prim.Native.Nat.{ℕ, ◌<◌, ◌≤◌}
use native.Mathlib.Omega.{arith}
use mathlib.Core.Bool.{Bool, true, false, cond, not, ◌&&◌, false≢true}
use mathlib.Core.List.{List, [], ◌∷◌}
use mathlib.Core.Logic.{⊎_elim}
use mathlib.Core.Option.{none, some}
use mathlib.Core.Path.{◌≡◌, refl, sym, ◌∙◌, ap}
use lib.Dec.{ltb}
use borrow.Author.Tests.{ltb-true, not-false}
use Rattle.std.proofs.lemmas.Bool.Decides.{nat_tests}
use Rattle.signals.specs.declared.Payload.{Payload}
use Rattle.signals.specs.Tables.{◌⇐◌, first_applying}
use Rattle.signals.proofs.Bools.{either}
use Rattle.lanes.specs.declared.MergeCycle.{MergeCycle}
use Rattle.lanes.specs.declared.Offer.{Offer}
use Rattle.lanes.specs.declared.SplitCycle.{SplitCycle}
use Rattle.lanes.specs.declared.Wide.{Wide}
use Rattle.lanes.specs.Answers.{Answer, answer_by}
use Rattle.lanes.specs.Lanes.{max_lanes, legal_lanes, per_lane}
use Rattle.lanes.specs.Offers.{no_offer, offer_when, offer_at}
use Rattle.lanes.specs.Wide.{lane, together, wide_zeros}
use Rattle.lanes.specs.Merge as ofMerge
use Rattle.lanes.specs.Split as ofSplit
use Rattle.lanes.proofs.PerLane.{entry_or_nothing, no_entry}

-- two or four are at most four
pub lanes_few : (lanes : ℕ) → legal_lanes lanes ≡ true → lanes ≤ max_lanes
lanes_few lanes e = grind (arith, nat_tests)

-- what holds of a cycle that is not refused, and of a refusal with any number, holds of every answer
module _ {A : Type 0} (P : Answer A → Type 0) (zeros cycle : A) (refused : (number : ℕ) → P (record { refusal = some number; outputs = zeros })) where
  answers_by : (legal past : Bool) → (legal ≡ true → past ≡ false → P (record { refusal = none; outputs = cycle })) →
      P (answer_by (first_applying (5 ⇐ not legal ∷ 2 ⇐ past ∷ [])) zeros cycle)
  answers_by true true accepted = refused 2
  answers_by true false accepted = accepted refl refl
  answers_by false past accepted = refused 5

module _ (lanes : ℕ) (inputs : List Offer) (ready : Bool) where
  -- a cycle by its parts, each found by what was found before it
  pub merge_parts : (valid : Bool) (wide : Wide) (readies : List Bool) → valid ≡ ofMerge.all_valid lanes inputs →
      wide ≡ cond valid (together lanes (ofMerge.payload_at inputs)) wide_zeros → readies ≡ per_lane lanes false (λ i. ready && valid) →
      ◌≡◌ {A = MergeCycle} (record { valid = valid; wide = wide; readies = readies }) (ofMerge.cycle lanes inputs ready)
  merge_parts valid wide readies v w r = rw (w, r, v)

  pub merge_accepts : legal_lanes lanes ≡ true → ofMerge.legal_strobes lanes inputs ≡ true →
      ofMerge.answer lanes inputs ready ≡ record { refusal = none; outputs = ofMerge.cycle lanes inputs ready }
  unfolding ofMerge.answer
  merge_accepts l s = rw (l, s)

  pub merge_refuses_strobes : legal_lanes lanes ≡ true → ofMerge.legal_strobes lanes inputs ≡ false →
      ofMerge.answer lanes inputs ready ≡ record { refusal = some 2; outputs = ofMerge.zeros }
  unfolding ofMerge.answer
  merge_refuses_strobes l s = rw (l, s)

  pub merge_refuses_lanes : legal_lanes lanes ≡ false →
      ofMerge.answer lanes inputs ready ≡ record { refusal = some 5; outputs = ofMerge.zeros }
  unfolding ofMerge.answer
  merge_refuses_lanes l = rw l

  pub merge_by : (P : Answer MergeCycle → Type 0) →
      (legal_lanes lanes ≡ true → ofMerge.legal_strobes lanes inputs ≡ true →
      P (record { refusal = none; outputs = ofMerge.cycle lanes inputs ready })) →
      ((number : ℕ) → P (record { refusal = some number; outputs = ofMerge.zeros })) → P (ofMerge.answer lanes inputs ready)
  unfolding ofMerge.answer
  merge_by P accepted refused = answers_by P _ _ refused _ _ (λ l s. accepted l (not-false _ s))

module _ (lanes : ℕ) (valid : Bool) (wide : Wide) (readies : List Bool) where
  pub split_parts : (ready : Bool) (branches : List Offer) → ready ≡ ofSplit.all_ready lanes readies →
      branches ≡ per_lane lanes no_offer (λ i. offer_when (valid && ready) (lane wide i)) →
      ◌≡◌ {A = SplitCycle} (record { ready = ready; branches = branches }) (ofSplit.cycle lanes valid wide readies)
  split_parts ready branches r b = rw (b, r)

  pub split_accepts : legal_lanes lanes ≡ true → ofSplit.strobe_past lanes wide ≡ false →
      ofSplit.answer lanes valid wide readies ≡ record { refusal = none; outputs = ofSplit.cycle lanes valid wide readies }
  unfolding ofSplit.answer
  split_accepts l s = rw (l, s)

  pub split_refuses_strobes : legal_lanes lanes ≡ true → ofSplit.strobe_past lanes wide ≡ true →
      ofSplit.answer lanes valid wide readies ≡ record { refusal = some 2; outputs = ofSplit.zeros }
  unfolding ofSplit.answer
  split_refuses_strobes l s = rw (l, s)

  pub split_refuses_lanes : legal_lanes lanes ≡ false →
      ofSplit.answer lanes valid wide readies ≡ record { refusal = some 5; outputs = ofSplit.zeros }
  unfolding ofSplit.answer
  split_refuses_lanes l = rw l

  pub split_by : (P : Answer SplitCycle → Type 0) →
      (legal_lanes lanes ≡ true → ofSplit.strobe_past lanes wide ≡ false →
      P (record { refusal = none; outputs = ofSplit.cycle lanes valid wide readies })) →
      ((number : ℕ) → P (record { refusal = some number; outputs = ofSplit.zeros })) → P (ofSplit.answer lanes valid wide readies)
  unfolding ofSplit.answer
  split_by P accepted refused = answers_by P _ _ refused _ _ accepted

  -- the source's ready, whatever it shows, if no strobe is past the lanes
  pub ready_is : ofSplit.strobe_past lanes wide ≡ false →
      (ofSplit.answer lanes valid wide readies).outputs.ready ≡ legal_lanes lanes && ofSplit.all_ready lanes readies
  ready_is s =
      let all : Bool → Bool = λ legal. legal && ofSplit.all_ready lanes readies in
      ⊎_elim
      (λ l. ap (λ (a : Answer SplitCycle). a.outputs.ready) (split_accepts l s) ∙ sym (ap all l))
      (λ l. ap (λ (a : Answer SplitCycle). a.outputs.ready) (split_refuses_lanes l) ∙ sym (ap all l))
      (either (legal_lanes lanes))

  -- the source gets ready only when all branches are
  pub ready_all : (ofSplit.answer lanes valid wide readies).outputs.ready ≡ true → ofSplit.all_ready lanes readies ≡ true
  ready_all =
      split_by (λ a. a.outputs.ready ≡ true → ofSplit.all_ready lanes readies ≡ true) (λ l s e. e) (λ number e. absurd (false≢true e))

  -- branch i of a cycle that is not refused, at a lane and past the lanes
  pub branch : legal_lanes lanes ≡ true → (i : ℕ) →
      offer_at (ofSplit.cycle lanes valid wide readies).branches i
      ≡ cond (ltb i lanes) (offer_when (valid && ofSplit.all_ready lanes readies) (lane wide i)) no_offer
  branch l i =
      entry_or_nothing no_offer (λ j. offer_when (valid && ofSplit.all_ready lanes readies) (lane wide j)) lanes i (lanes_few lanes l)

  -- a branch is offered something only where it is one of the lanes, and only when the source is valid and all branches are ready
  pub offered : (i : ℕ) → (offer_at (ofSplit.answer lanes valid wide readies).outputs.branches i).valid ≡ true →
      (i < lanes) × (valid && ofSplit.all_ready lanes readies ≡ true)
  offered i =
      split_by (λ a. (offer_at a.outputs.branches i).valid ≡ true → (i < lanes) × (valid && ofSplit.all_ready lanes readies ≡ true))
      (λ l s e. let w = made (ltb i lanes) (valid && ofSplit.all_ready lanes readies) (lane wide i) (sym (ap valid_in (branch l i)) ∙ e) in
      (ltb-true i lanes w.0, w.1))
      (λ number e. absurd (false≢true (sym (ap valid_in (no_entry no_offer (λ j. no_offer) 0 i (omega arith) (omega arith))) ∙ e)))
    where
      valid_in : Offer → Bool
      valid_in o = o.valid

      made : (t b : Bool) (p : Payload) → (cond t (offer_when b p) no_offer).valid ≡ true → (t ≡ true) × (b ≡ true)
      made true true p e = (refl, refl)
      made true false p e = absurd (false≢true e)
      made false b p e = absurd (false≢true e)

  pub offers_none : valid && ofSplit.all_ready lanes readies ≡ false → (i : ℕ) →
      offer_at (ofSplit.answer lanes valid wide readies).outputs.branches i ≡ no_offer
  offers_none e i =
      split_by (λ a. offer_at a.outputs.branches i ≡ no_offer)
      (λ l s. branch l i ∙ ap (λ (b : Bool). cond (ltb i lanes) (offer_when b (lane wide i)) no_offer) e ∙ neither (ltb i lanes))
      (λ number. no_entry no_offer (λ j. no_offer) 0 i (omega arith) (omega arith))
    where
      neither : (t : Bool) → cond t no_offer no_offer ≡ no_offer
      neither true = refl
      neither false = refl
