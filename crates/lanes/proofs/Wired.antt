-- Split after merge gives back the payloads and their order. Idea: where a cycle is not refused, an input and its branch both have a
-- handshake exactly when all inputs are valid and all branches ready, and then the lane is the input's payload; else neither has one.
-- Assumes nothing.
use Prim.Native.Nat.{ℕ, ◌<◌, ◌≤◌, ◌^◌}
use native.Mathlib.Nat.{mod-eq_of_lt}
use native.Mathlib.Omega.{arith}
use mathlib.Core.Bool.{Bool, true, false, cond, ◌&&◌}
use mathlib.Core.List.{List, [], ◌∷◌, ◌++◌}
use mathlib.Core.Logic.{⊎_elim}
use mathlib.Core.Path.{◌≡◌, refl, sym, ◌∙◌, ap, ap₂, subst}
use lib.Dec.{ltb}
use lib.ListN.{get_or}
use lib.Seq.{ext_get_or}
use borrow.Author.Tests.{ltb-true, ltb-false, leb-true, lt-leb}
use Rattle.signals.specs.declared.Payload.{Payload}
use Rattle.signals.specs.Payloads.{max_strb}
use Rattle.signals.proofs.Below.{each_below}
use Rattle.signals.proofs.Bools.{either}
use Rattle.lanes.specs.declared.MergeCycle.{MergeCycle}
use Rattle.lanes.specs.declared.Offer.{Offer}
use Rattle.lanes.specs.declared.SplitCycle.{SplitCycle}
use Rattle.lanes.specs.declared.Wide.{Wide}
use Rattle.lanes.specs.Answers.{Answer}
use Rattle.lanes.specs.Lanes.{max_lanes, legal_lanes, per_lane}
use Rattle.lanes.specs.Offers.{no_offer, offer_when, offer_at}
use Rattle.lanes.specs.Wide.{lane, together, wide_zeros}
use Rattle.lanes.specs.Merge as ofMerge
use Rattle.lanes.specs.Merge.{payload_at, legal_strobes, all_valid}
use Rattle.lanes.specs.Split as ofSplit
use Rattle.lanes.specs.Split.{ready_at, strobe_past, all_ready}
use Rattle.lanes.specs.Wired.{handed, to_branch, SameCycle, SameOrder, Wires, ApartIsEach, TogetherIsWhole}
use Rattle.lanes.proofs.PerLane.{entry_or_nothing, lane_entry, no_entry}
use Rattle.lanes.proofs.Digits.{pow_pos, strobes_fit, strobes_found, strobes_of_lanes, legal_below}
use Rattle.lanes.proofs.Answers.{lanes_few, merge_accepts, merge_by, split_accepts, ready_is, branch, offers_none}

-- ---- of payloads alone

-- one lane, by its data and its strobes
pub lane_of_together : (lanes : ℕ) (payload : ℕ → Payload) → lanes ≤ max_lanes → ((i : ℕ) → i < lanes → (payload i).strb < 16) →
    (i : ℕ) → i < lanes → lane (together lanes payload) i ≡ payload i
lane_of_together lanes payload few legal i h =
    ap₂ {C = Payload} (λ (word strb : ℕ). record { «data» = word; strb = strb })
    (lane_entry 0 (λ j. (payload j).«data») lanes i few h)
    (strobes_found payload lanes i legal h)

pub apart_is_each_lem : ApartIsEach
apart_is_each_lem lanes payload few legal =
    lane_of_together lanes payload few (λ i h. let l = leb-true (payload i).strb max_strb (legal i h) in omega arith)

pub together_is_whole_lem : TogetherIsWhole
together_is_whole_lem lanes w few size past fits =
    ap₂ {C = Wide} (λ (words : List ℕ) (strb : ℕ). record { «data» = words; strb = strb })
    (ext_get_or 0 (per_lane lanes 0 (λ i. get_or w.«data» i 0)) w.«data» (sym size) each)
    (strobes_of_lanes w lanes ∙ mod-eq_of_lt fits)
  where
    each : (i : ℕ) → i < max_lanes → get_or (per_lane lanes 0 (λ j. get_or w.«data» j 0)) i 0 ≡ get_or w.«data» i 0
    each i h =
        ⊎_elim
        (λ t. lane_entry 0 (λ j. get_or w.«data» j 0) lanes i few (ltb-true i lanes t))
        (λ f. let l = ltb-false i lanes f in no_entry 0 (λ j. get_or w.«data» j 0) lanes i few l ∙ sym (past i l))
        (either (ltb i lanes))

-- ---- in one cycle

-- nothing is handed over without ready
unready : (o : Offer) → handed o false ≡ []
unready o = of_valid o.valid
  where
    of_valid : (b : Bool) → handed (record { valid = b; payload = o.payload }) false ≡ []
    of_valid true = refl
    of_valid false = refl

-- t, it is one of the lanes; v, all inputs are valid; r, all branches are ready: what an input with valid iv hands over, and what its
-- branch with ready br is handed
agrees : (t v r iv br : Bool) (p q : Payload) → (t ≡ true → v ≡ true → iv ≡ true) → (t ≡ true → r ≡ true → br ≡ true) →
    (t ≡ true → v ≡ true → p ≡ q) →
    handed (cond t (offer_when (v && r) p) no_offer) br ≡ handed (record { valid = iv; payload = q }) (cond t (r && v) false)
agrees true true true iv br p q valid ready same = rw (valid refl refl, ready refl refl, same refl refl)
agrees true true false iv br p q valid ready same = sym (unready (record { valid = iv; payload = q }))
agrees true false true iv br p q valid ready same = sym (unready (record { valid = iv; payload = q }))
agrees true false false iv br p q valid ready same = sym (unready (record { valid = iv; payload = q }))
agrees false v r iv br p q valid ready same = sym (unready (record { valid = iv; payload = q }))

-- what a merge shows has no strobe past the lanes, so the split behind it is not refused for one
no_strobe_past : (lanes : ℕ) (inputs : List Offer) (ready : Bool) →
    strobe_past lanes (ofMerge.answer lanes inputs ready).outputs.wide ≡ false
no_strobe_past lanes inputs ready =
    merge_by lanes inputs ready (λ a. strobe_past lanes a.outputs.wide ≡ false)
    (λ l s. ⊎_elim (shows s) hides (either (all_valid lanes inputs)))
    (λ number. none)
  where
    none : strobe_past lanes wide_zeros ≡ false
    none = lt-leb (16 ^ lanes) 0 (pow_pos lanes)

    shows : legal_strobes lanes inputs ≡ true → all_valid lanes inputs ≡ true → strobe_past lanes (ofMerge.cycle lanes inputs ready).wide ≡ false
    shows s v = rw v (lt-leb (16 ^ lanes) _ (strobes_fit (payload_at inputs) lanes (legal_below inputs lanes s)))

    hides : all_valid lanes inputs ≡ false → strobe_past lanes (ofMerge.cycle lanes inputs ready).wide ≡ false
    hides v = rw v none

-- where the two are not refused, at a lane and past the lanes
cycle_same : (lanes : ℕ) (inputs : List Offer) (readies : List Bool) → legal_lanes lanes ≡ true → legal_strobes lanes inputs ≡ true → (i : ℕ) →
    let merge = ofMerge.cycle lanes inputs (all_ready lanes readies) in
    handed (offer_at (ofSplit.cycle lanes merge.valid merge.wide readies).branches i) (ready_at readies i)
    ≡ handed (offer_at inputs i) (ready_at merge.readies i)
cycle_same lanes inputs readies l s i =
    ap (λ (o : Offer). handed o (ready_at readies i)) (branch lanes v wide readies l i)
    ∙ agrees (ltb i lanes) v r (offer_at inputs i).valid (ready_at readies i) (lane wide i) (payload_at inputs i)
    (λ t e. each_below (λ j. (offer_at inputs j).valid) lanes e i (ltb-true i lanes t))
    (λ t e. each_below (ready_at readies) lanes e i (ltb-true i lanes t))
    shows
    ∙ sym (ap (handed (offer_at inputs i)) (entry_or_nothing false (λ j. r && v) lanes i (lanes_few lanes l)))
  where
    v : Bool
    v = all_valid lanes inputs

    r : Bool
    r = all_ready lanes readies

    wide : Wide
    wide = (ofMerge.cycle lanes inputs r).wide

    shows : ltb i lanes ≡ true → v ≡ true → lane wide i ≡ payload_at inputs i
    shows t e = rw e (lane_of_together lanes (payload_at inputs) (lanes_few lanes l) (legal_below inputs lanes s) i (ltb-true i lanes t))

pub same_cycle_lem : SameCycle
same_cycle_lem lanes i c =
    subst Same (sym c.merges)
    (merge_by lanes c.inputs c.split.ready (λ a. c.split ≡ split_of a.outputs → Same a.outputs)
    accepted (λ number. refused) (c.splits ∙ ap split_of c.merges))
  where
    split_of : MergeCycle → SplitCycle
    split_of m = (ofSplit.answer lanes m.valid m.wide c.readies).outputs

    Same : MergeCycle → Type 0
    Same m = to_branch i c ≡ handed (offer_at c.inputs i) (ready_at m.readies i)

    -- the merge is refused: the branch is offered nothing, and the input gets no ready
    refused : c.split ≡ split_of ofMerge.zeros → Same ofMerge.zeros
    refused splits =
        ap (λ (o : Offer). handed o (ready_at c.readies i))
        (ap (λ (a : SplitCycle). offer_at a.branches i) splits ∙ offers_none lanes false wide_zeros c.readies refl i)
        ∙ sym (ap (handed (offer_at c.inputs i)) (no_entry false (λ j. false) 0 i (omega arith) (omega arith)) ∙ unready (offer_at c.inputs i))

    -- it is not, and so neither is the split
    accepted : legal_lanes lanes ≡ true → legal_strobes lanes c.inputs ≡ true → c.split ≡ split_of (ofMerge.cycle lanes c.inputs c.split.ready) →
        Same (ofMerge.cycle lanes c.inputs c.split.ready)
    accepted l s splits =
        let m = ofMerge.cycle lanes c.inputs c.split.ready in
        let past : strobe_past lanes m.wide ≡ false =
        ap (λ (a : Answer MergeCycle). strobe_past lanes a.outputs.wide) (sym (merge_accepts lanes c.inputs c.split.ready l s))
        ∙ no_strobe_past lanes c.inputs c.split.ready in
        let cycles : c.split ≡ ofSplit.cycle lanes m.valid m.wide c.readies = splits ∙ ap (λ (a : Answer SplitCycle). a.outputs) (split_accepts lanes m.valid m.wide c.readies l past) in
        ap (λ (a : SplitCycle). handed (offer_at a.branches i) (ready_at c.readies i)) cycles
        ∙ cycle_same lanes c.inputs c.readies l s i
        ∙ sym
        (ap (λ (ready : Bool). handed (offer_at c.inputs i) (ready_at (ofMerge.cycle lanes c.inputs ready).readies i))
        (ap (λ (a : SplitCycle). a.ready) cycles))

pub same_order_lem : SameOrder
same_order_lem lanes i [] = refl
same_order_lem lanes i (c ∷ cs) = ap₂ (λ (ps qs : List Payload). ps ++ qs) (same_cycle_lem lanes i c) (same_order_lem lanes i cs)

-- a split's ready does not depend on what its source shows, so that the wire closes
pub wires : Wires
wires lanes inputs readies = (
  record {
    inputs = inputs;
    readies = readies;
    merge = merge;
    split = split;
    merges = ap (λ (b : Bool). (ofMerge.answer lanes inputs b).outputs) same;
    splits = refl;
  },
  refl,
  refl,
)
  where
    ready : Bool
    ready = (ofSplit.answer lanes false wide_zeros readies).outputs.ready

    merge : MergeCycle
    merge = (ofMerge.answer lanes inputs ready).outputs

    split : SplitCycle
    split = (ofSplit.answer lanes merge.valid merge.wide readies).outputs

    same : ready ≡ split.ready
    same =
        ready_is lanes false wide_zeros readies (lt-leb (16 ^ lanes) 0 (pow_pos lanes))
        ∙ sym (ready_is lanes merge.valid merge.wide readies (no_strobe_past lanes inputs ready))
