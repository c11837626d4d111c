-- Merge keeps rules 2 and 4 if its inputs do. Idea: where the output stalls, all inputs are valid and get no ready, so each of them stalls;
-- by its rules it is valid in the next cycle with the same payload, and so the output is. A branch of a split never stalls.
-- Assumes nothing.
use Prim.Native.Nat.{ℕ, zero, suc, ◌<◌, ◌≤◌}
use mathlib.Core.Bool.{Bool, true, false, cond, not, ◌&&◌, false≢true}
use mathlib.Core.List.{List}
use mathlib.Core.Path.{◌≡◌, refl, sym, ◌∙◌, ap}
use borrow.Author.Tests.{not-true}
use Rattle.signals.specs.Payloads.{legal_strb, same_payload}
use Rattle.signals.specs.Stream.{Sample}
use Rattle.signals.proofs.Below.{each_below, every_below_lem}
use Rattle.signals.proofs.Bools.{both}
use Rattle.signals.proofs.Payloads.{same_payload_lem, payloads_same}
use Rattle.stream_checker.specs.Rules.{stalled, breaks_held, breaks_stable}
use Rattle.lanes.specs.declared.MergeCycle.{MergeCycle}
use Rattle.lanes.specs.declared.Offer.{Offer}
use Rattle.lanes.specs.declared.Wide.{Wide}
use Rattle.lanes.specs.Answers.{Answer}
use Rattle.lanes.specs.Lanes.{max_lanes, legal_lanes}
use Rattle.lanes.specs.Offers.{offer_at}
use Rattle.lanes.specs.Wide.{lane, together, wide_zeros}
use Rattle.lanes.specs.Merge as ofMerge
use Rattle.lanes.specs.Merge.{payload_at, legal_strobes, all_valid}
use Rattle.lanes.specs.Split.{ready_at, all_ready}
use Rattle.lanes.specs.Keeping.{seen, Keeps, merge_in, output_trace, MergeKeepsRules, branch_trace, NoBranchStalls, BranchesKeepRules}
use Rattle.lanes.proofs.PerLane.{lane_entry}
use Rattle.lanes.proofs.Used.{together_alike}
use Rattle.lanes.proofs.Answers.{lanes_few, merge_accepts, merge_by, offered}

-- ---- merge

-- a merge that shows valid is not refused, and all its inputs are valid
shows : (lanes : ℕ) (inputs : List Offer) (ready : Bool) → (ofMerge.answer lanes inputs ready).outputs.valid ≡ true →
    (legal_lanes lanes ≡ true) × (legal_strobes lanes inputs ≡ true) × (all_valid lanes inputs ≡ true)
shows lanes inputs ready =
    merge_by lanes inputs ready
    (λ a. a.outputs.valid ≡ true → (legal_lanes lanes ≡ true) × (legal_strobes lanes inputs ≡ true) × (all_valid lanes inputs ≡ true))
    (λ l s e. (l, s, e))
    (λ number e. absurd (false≢true e))

-- what the rules ask of a stream that stalls
stays_valid : (s now : Bool) → s ≡ true → s && not now ≡ false → now ≡ true
stays_valid s true stall e = refl
stays_valid s false stall e = absurd (false≢true (sym (rw stall at e)))

stays_same : (s now same : Bool) → s ≡ true → now ≡ true → s && (now && not same) ≡ false → same ≡ true
stays_same s now true stall valid e = refl
stays_same s now false stall valid e = absurd (false≢true (sym (rw (stall, valid) at e)))

-- two cycles after one another, in which each input keeps the rules, and the output stalls in the first
module _ (lanes : ℕ) (inputs next : List Offer) (ready ready-next : Bool) where
  abbrev first : MergeCycle
  first = (ofMerge.answer lanes inputs ready).outputs

  abbrev second : MergeCycle
  second = (ofMerge.answer lanes next ready-next).outputs

  abbrev before : ℕ → Sample
  before i = seen (offer_at inputs i) (ready_at first.readies i)

  abbrev now : ℕ → Sample
  now i = seen (offer_at next i) (ready_at second.readies i)

  module _ (shown : first.valid ≡ true) (left : ready ≡ false)
      (held : (i : ℕ) → i < lanes → breaks_held (before i) (now i) ≡ false)
      (stable : (i : ℕ) → i < lanes → breaks_stable (before i) (now i) ≡ false) where
    w : (legal_lanes lanes ≡ true) × (legal_strobes lanes inputs ≡ true) × (all_valid lanes inputs ≡ true)
    w = shows lanes inputs ready shown

    few : lanes ≤ max_lanes
    few = lanes_few lanes w.0

    -- each input stalls
    unready : (i : ℕ) → i < lanes → ready_at first.readies i ≡ false
    unready i h =
        ap (λ (a : Answer MergeCycle). ready_at a.outputs.readies i) (merge_accepts lanes inputs ready w.0 w.1)
        ∙ lane_entry false (λ j. ready && all_valid lanes inputs) lanes i few h
        ∙ ap (λ (b : Bool). b && all_valid lanes inputs) left

    stalls : (i : ℕ) → i < lanes → stalled (before i) ≡ true
    stalls i h = rw (each_below (λ j. (offer_at inputs j).valid) lanes w.2 i h, unready i h)

    valid_next : (i : ℕ) → i < lanes → (offer_at next i).valid ≡ true
    valid_next i h = stays_valid (stalled (before i)) (offer_at next i).valid (stalls i h) (held i h)

    same_next : (i : ℕ) → i < lanes → payload_at next i ≡ payload_at inputs i
    same_next i h =
        payloads_same (payload_at next i) (payload_at inputs i)
        (stays_same (stalled (before i)) (offer_at next i).valid (same_payload (payload_at next i) (payload_at inputs i)) (stalls i h) (valid_next i h) (stable i h))

    -- so the second cycle is not refused, and shows the same
    legal_next : legal_strobes lanes next ≡ true
    legal_next =
        every_below_lem (λ i. legal_strb (payload_at next i)) lanes
        (λ i h. ap legal_strb (same_next i h) ∙ each_below (λ j. legal_strb (payload_at inputs j)) lanes w.1 i h)

    all_next : all_valid lanes next ≡ true
    all_next = every_below_lem (λ i. (offer_at next i).valid) lanes valid_next

    second_cycle : second ≡ ofMerge.cycle lanes next ready-next
    second_cycle = ap (λ (a : Answer MergeCycle). a.outputs) (merge_accepts lanes next ready-next w.0 legal_next)

    still : (second.valid ≡ true) × (second.wide ≡ first.wide)
    still = (
      ap (λ (a : MergeCycle). a.valid) second_cycle ∙ all_next,
      ap (λ (a : MergeCycle). a.wide) second_cycle
          ∙ ap (λ (b : Bool). cond b (together lanes (payload_at next)) wide_zeros) all_next
          ∙ together_alike (payload_at next) (payload_at inputs) lanes few same_next
          ∙ sym
          (ap (λ (a : Answer MergeCycle). a.outputs.wide) (merge_accepts lanes inputs ready w.0 w.1)
          ∙ ap (λ (b : Bool). cond b (together lanes (payload_at inputs)) wide_zeros) w.2),
    )

-- the two rules of a stream that shows again what it stalls on, where s says that it stalls
rule4 : (s now : Bool) → (s ≡ true → now ≡ true) → s && not now ≡ false
rule4 true now again = rw (again refl)
rule4 false now again = refl

rule2 : (s now same : Bool) → (s ≡ true → same ≡ true) → s && (now && not same) ≡ false
rule2 true true same again = rw (again refl)
rule2 true false same again = refl
rule2 false now same again = refl

pub merge_keeps_rules_lem : MergeKeepsRules
merge_keeps_rules_lem lanes given n keeps = record { each_lane = each; whole = whole }
  where
    whole : (c : ℕ) → suc c < n → stalled (output_trace lanes given 0 c) ≡ true →
        ((merge_in lanes given (suc c)).valid ≡ true) × ((merge_in lanes given (suc c)).wide ≡ (merge_in lanes given c).wide)
    whole c h stall =
        let s = both (merge_in lanes given c).valid (not (given c).ready) stall in
        let left = not-true (given c).ready s.1 in
        still lanes (given c).inputs (given (suc c)).inputs (given c).ready (given (suc c)).ready s.0 left
        (λ i g. (keeps i g (suc c) h).0) (λ i g. (keeps i g (suc c) h).1.0)

    each : (i : ℕ) → i < lanes → Keeps (output_trace lanes given i) n
    each i g zero h = (refl, (refl, tt))
    each i g (suc c) h = (
      rule4 (stalled (output_trace lanes given i c)) (merge_in lanes given (suc c)).valid (λ s. (whole c h s).0),
      (
        rule2 (stalled (output_trace lanes given i c)) (merge_in lanes given (suc c)).valid
            (same_payload (lane (merge_in lanes given (suc c)).wide i) (lane (merge_in lanes given c).wide i))
            (λ s. ap (λ (w : Wide). same_payload (lane w i) (lane (merge_in lanes given c).wide i)) (whole c h s).1
            ∙ same_payload_lem (lane (merge_in lanes given c).wide i)),
        tt,
      ),
    )

-- ---- split

-- a branch that is offered something is ready
pub no_branch_stalls_lem : NoBranchStalls
no_branch_stalls_lem lanes given i c = rule4 (branch_trace lanes given i c).valid (branch_trace lanes given i c).ready ready
  where
    ready : (branch_trace lanes given i c).valid ≡ true → (branch_trace lanes given i c).ready ≡ true
    ready e =
        let w = offered lanes (given c).valid (given c).wide (given c).readies i e in
        each_below (ready_at (given c).readies) lanes (both (given c).valid (all_ready lanes (given c).readies) w.1).1 i w.0

pub branches_keep_rules_lem : BranchesKeepRules
branches_keep_rules_lem lanes given i n zero h = (refl, (refl, tt))
branches_keep_rules_lem lanes given i n (suc c) h =
    let free = no_branch_stalls_lem lanes given i c in (rw free, (rw free, tt))
