-- Request T-01: merge keeps rules 2 and 4 if its inputs do, in the stream checker's words; and what split does to its branches.
-- `proofs/Keeping.antt` has the proofs. Assumes nothing.
use Rattle.std.specs.Prelude.{ℕ, suc, ◌<◌, Bool, true, false, List, ◌≡◌}
use Rattle.signals.specs.Stream.{Sample}
use Rattle.signals.specs.Tables.{NoneIn}
use Rattle.stream_checker.specs.Rules.{stalled, rules}
use Rattle.lanes.specs.declared.MergeCycle.{MergeCycle}
use Rattle.lanes.specs.declared.Offer.{Offer}
use Rattle.lanes.specs.declared.SplitCycle.{SplitCycle}
use Rattle.lanes.specs.declared.Wide.{Wide}
use Rattle.lanes.specs.Offers.{offer_at}
use Rattle.lanes.specs.Wide.{lane}
use Rattle.lanes.specs.Merge as ofMerge
use Rattle.lanes.specs.Split as ofSplit
use Rattle.lanes.specs.Split.{ready_at}

-- what a sink sees of an offer, with the ready that it gives
abbrev pub seen : Offer → (ready : Bool) → Sample
seen offer ready = record { valid = offer.valid; ready = ready; clear = false; payload = offer.payload }

-- none of the first n cycles of a trace breaks rule 4 or rule 2
abbrev pub Keeps : (trace : ℕ → Sample) → ℕ → Type 0
Keeps trace n = (c : ℕ) → c < n → NoneIn (rules false trace c)

-- ---- merge

-- what a merge is given in one cycle
pub record Merging : Type 0 where
  pub inputs : List Offer
  pub ready : Bool

module _ (lanes : ℕ) (given : ℕ → Merging) where
  abbrev pub merge_in : ℕ → MergeCycle
  merge_in c = (ofMerge.answer lanes (given c).inputs (given c).ready).outputs

  -- input i, judged with the ready that the merge gives it
  abbrev pub input_trace : (i : ℕ) → ℕ → Sample
  input_trace i c = seen (offer_at (given c).inputs i) (ready_at (merge_in c).readies i)

  -- lane i of the output: the valid and the ready of all lanes, with its own payload
  abbrev pub output_trace : (i : ℕ) → ℕ → Sample
  output_trace i c = seen (record { valid = (merge_in c).valid; payload = lane (merge_in c).wide i }) (given c).ready

  -- The output keeps the rules in each lane; and what it shows and is not taken it shows in the next cycle again, the wide payload as a
  -- whole.
  pub record KeepsWide (n : ℕ) : Type 0 where
    pub each_lane : (i : ℕ) → i < lanes → Keeps (output_trace i) n
    pub whole : (c : ℕ) → suc c < n → stalled (output_trace 0 c) ≡ true →
        ((merge_in (suc c)).valid ≡ true) × ((merge_in (suc c)).wide ≡ (merge_in c).wide)

-- Over any trace of any length, refused cycles included.
abbrev pub MergeKeepsRules : Type 0
MergeKeepsRules =
    (lanes : ℕ) (given : ℕ → Merging) (n : ℕ) → ((i : ℕ) → i < lanes → Keeps (input_trace lanes given i) n) → KeepsWide lanes given n

-- ---- split

-- what a split is given in one cycle
pub record Splitting : Type 0 where
  pub valid : Bool
  pub wide : Wide
  pub readies : List Bool

module _ (lanes : ℕ) (given : ℕ → Splitting) where
  abbrev pub split_in : ℕ → SplitCycle
  split_in c = (ofSplit.answer lanes (given c).valid (given c).wide (given c).readies).outputs

  abbrev pub branch_trace : (i : ℕ) → ℕ → Sample
  branch_trace i c = seen (offer_at (split_in c).branches i) (ready_at (given c).readies i)

-- No branch ever stalls, whatever the source does, since a branch is offered nothing while it is not ready; so each keeps the rules.
abbrev pub NoBranchStalls : Type 0
NoBranchStalls = (lanes : ℕ) (given : ℕ → Splitting) (i c : ℕ) → stalled (branch_trace lanes given i c) ≡ false

abbrev pub BranchesKeepRules : Type 0
BranchesKeepRules = (lanes : ℕ) (given : ℕ → Splitting) (i n : ℕ) → Keeps (branch_trace lanes given i) n
