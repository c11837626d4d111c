-- Request T-01: a branch's valid depends on ready, against rule 3. What comes of it behind a branch that waits for valid, and what a FIFO
-- behind each branch does about it. `proofs/Waiting.antt` has the proofs. Assumes nothing.
use Rattle.std.specs.Prelude.{ℕ, ◌<◌, Bool, true, false, List, [], ◌∷◌, map, ◌≡◌, get_or}
use Rattle.std.proofs.Math.Option.{none}
use Rattle.signals.specs.declared.Payload.{Payload}
use Rattle.signals.specs.Payloads.{legal_strb}
use Rattle.signals.specs.Tables.{first_applying}
use Rattle.fifo.specs.Queue as ofFifo
use Rattle.fifo.specs.Queue.{Queue, well, step_of, ready, shown, is_any, next, empty, plain}
use Rattle.lanes.specs.declared.Offer.{Offer}
use Rattle.lanes.specs.declared.Wide.{Wide}
use Rattle.lanes.specs.Offers.{no_offer, offer_at}
use Rattle.lanes.specs.Wide.{lane}
use Rattle.lanes.specs.Split.{ready_at, grounds, answer}
use Rattle.lanes.specs.Keeping.{Splitting, split_in, branch_trace}

-- ---- a branch that waits

-- Branch i raises ready in a cycle only if it has seen valid in an earlier one.
abbrev pub Waits : (lanes : ℕ) → (given : ℕ → Splitting) → (i : ℕ) → Type 0
Waits lanes given i =
    (c : ℕ) → ready_at (given c).readies i ≡ true → (b : ℕ) × (b < c) × ((branch_trace lanes given i b).valid ≡ true)

-- One such branch is enough: the source never gets ready, and no branch is ever offered anything.
abbrev pub OneWaitingStopsAll : Type 0
OneWaitingStopsAll =
    (lanes : ℕ) (given : ℕ → Splitting) (i : ℕ) → i < lanes → Waits lanes given i → (c : ℕ) →
    ((split_in lanes given c).ready ≡ false) × ((j : ℕ) → offer_at (split_in lanes given c).branches j ≡ no_offer)

-- ---- a FIFO behind each branch

-- A FIFO's ready does not depend on what it is offered, valid or not, nor on its own sink.
abbrev pub ReadyWithoutValid : Type 0
ReadyWithoutValid =
    (q : Queue) (valid sink : Bool) (p : Payload) → legal_strb p ≡ true → (step_of (well q) valid p sink false).ready ≡ ready q

-- the FIFO behind branch i
abbrev pub behind : List Queue → ℕ → Queue
behind qs i = get_or qs i (empty (plain 0))

-- What the FIFO behind branch i answers to the split's offer, where the split is given the FIFOs' readies.
abbrev pub fifo_in : (lanes : ℕ) → List Queue → (valid : Bool) → Wide → (i : ℕ) → (sink : Bool) → ofFifo.Answer
fifo_in lanes qs valid wide i sink =
    let offer : Offer = offer_at (answer lanes valid wide (map ready qs)).outputs.branches i in
    step_of (well (behind qs i)) offer.valid offer.payload sink false

-- The source gets ready whether it is valid or not; what it shows goes into the FIFOs in this very cycle, each its lane; and in the next
-- each FIFO shows its sink a payload, whether that sink is ready or not.
pub record TakenAtOnce (lanes : ℕ) (qs : List Queue) (wide : Wide) : Type 0 where
  pub source_ready : (valid : Bool) → (answer lanes valid wide (map ready qs)).outputs.ready ≡ true
  -- the readies that the split is given are those that the FIFOs answer in this cycle
  pub wired : (valid : Bool) (i : ℕ) → i < lanes → (sink : Bool) → (fifo_in lanes qs valid wide i sink).ready ≡ ready_at (map ready qs) i
  pub joins : (i : ℕ) → i < lanes → (sink : Bool) →
      (fifo_in lanes qs true wide i sink).next ≡ well (next (behind qs i) (lane wide i ∷ []) sink)
  pub shows_next : (i : ℕ) → i < lanes → (sink : Bool) → is_any (shown (next (behind qs i) (lane wide i ∷ []) sink)) ≡ true

-- So it is where a split is not refused and each FIFO has room.
abbrev pub FifosTakeAtOnce : Type 0
FifosTakeAtOnce =
    (lanes : ℕ) (qs : List Queue) (wide : Wide) → first_applying (grounds lanes wide) ≡ none →
    ((i : ℕ) → i < lanes → ready (behind qs i) ≡ true) → TakenAtOnce lanes qs wide
