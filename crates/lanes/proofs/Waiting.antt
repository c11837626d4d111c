-- A branch that waits for valid stops all; a FIFO behind each branch lets them go. Idea: the first cycle in which the waiting branch were
-- ready would need an earlier one; and a FIFO's ready is settled by what it holds. Assumes nothing.
use Prim.Native.Nat.{ℕ, zero, suc, ◌/◌, ◌^◌, ◌<◌}
use native.Mathlib.Nat.{mod-lt, zero-lt-suc}
use native.Mathlib.Omega.{arith}
use mathlib.Core.Bool.{Bool, true, false, cond, ◌&&◌}
use mathlib.Core.List.{List, [], ◌∷◌, ◌++◌, map}
use mathlib.Core.Logic.{⊎_elim}
use mathlib.Core.Path.{◌≡◌, refl, sym, ◌∙◌, ap}
use lib.ListN.{get_or-map}
use borrow.Author.Tests.{not-false, le-leb}
use Rattle.signals.specs.declared.Payload.{Payload}
use Rattle.signals.specs.Payloads.{max_strb, legal_strb}
use Rattle.signals.proofs.Below.{each_below, every_below_lem}
use Rattle.signals.proofs.Bools.{either, both, not_both}
use Rattle.signals.proofs.Tables.{none_keeps}
use Rattle.fifo.specs.Queue as ofFifo
use Rattle.fifo.specs.Queue.{Queue, well, step_of, ready, shown, oldest, rest, is_any, next, empty, plain}
use Rattle.fifo.proofs.Stepping.{step_legal}
use Rattle.lanes.specs.declared.Offer.{Offer}
use Rattle.lanes.specs.declared.SplitCycle.{SplitCycle}
use Rattle.lanes.specs.declared.Wide.{Wide}
use Rattle.lanes.specs.Answers.{Answer}
use Rattle.lanes.specs.Lanes.{legal_lanes}
use Rattle.lanes.specs.Offers.{no_offer, offer_when, offer_at}
use Rattle.lanes.specs.Wide.{lane}
use Rattle.lanes.specs.Split as ofSplit
use Rattle.lanes.specs.Split.{ready_at, all_ready, strobe_past}
use Rattle.lanes.specs.Keeping.{Splitting, split_in}
use Rattle.lanes.specs.Waiting.{Waits, OneWaitingStopsAll, ReadyWithoutValid, behind, fifo_in, TakenAtOnce, FifosTakeAtOnce}
use Rattle.lanes.proofs.PerLane.{lane_entry}
use Rattle.lanes.proofs.Answers.{lanes_few, split_accepts, ready_all, offered, offers_none}

-- ---- a branch that waits

-- it is not ready in any of the first n cycles
never_ready : (lanes : ℕ) (given : ℕ → Splitting) (i : ℕ) → i < lanes → Waits lanes given i →
    (n c : ℕ) → c < n → ready_at (given c).readies i ≡ false
never_ready lanes given i h waits zero c g = absurd (omega arith)
never_ready lanes given i h waits (suc n) c g =
    ⊎_elim
    (λ t. let seen = waits c t in
    let all = (both (given seen.0).valid _ (offered lanes (given seen.0).valid (given seen.0).wide (given seen.0).readies i seen.2).1).1 in
    absurd
    (not_both (ready_at (given seen.0).readies i) (each_below (ready_at (given seen.0).readies) lanes all i h)
    (never_ready lanes given i h waits n seen.0 (omega (arith, seen.1)))))
    (λ f. f)
    (either (ready_at (given c).readies i))

pub one_waiting_stops_all_lem : OneWaitingStopsAll
one_waiting_stops_all_lem lanes given i h waits c = (
  ⊎_elim (λ t. absurd (not_all (ready_all lanes valid wide readies t))) (λ f. f) (either (split_in lanes given c).ready),
  offers_none lanes valid wide readies (⊎_elim (λ t. absurd (not_all (both valid (all_ready lanes readies) t).1)) (λ f. f) (either (valid && all_ready lanes readies))),
)
  where
    valid : Bool
    valid = (given c).valid

    wide : Wide
    wide = (given c).wide

    readies : List Bool
    readies = (given c).readies

    not_all : all_ready lanes readies ≡ true → ⊥
    not_all all =
        not_both (ready_at readies i) (each_below (ready_at readies) lanes all i h)
        (never_ready lanes given i h waits (suc c) c (omega arith))

-- ---- a FIFO behind each branch

pub ready_without_valid_lem : ReadyWithoutValid
ready_without_valid_lem q valid sink p legal = ap (λ (a : ofFifo.Answer). a.ready) (step_legal q valid sink false p legal)

-- a lane's strobes are legal, and so are those of an offer of it
lane_legal : (w : Wide) (i : ℕ) → legal_strb (lane w i) ≡ true
lane_legal w i = le-leb (lane w i).strb max_strb (let h = mod-lt (w.strb / 16 ^ i) {m = 16} (zero-lt-suc 15) in omega arith)

offer_legal : (b : Bool) (w : Wide) (i : ℕ) → legal_strb (offer_when b (lane w i)).payload ≡ true
offer_legal true w i = lane_legal w i
offer_legal false w i = refl

-- what joins a FIFO is shown by it, or something before it is
joined_shows : (held : List Payload) (p : Payload) → is_any (oldest (held ++ p ∷ [])) ≡ true
joined_shows [] p = refl
joined_shows (q ∷ held) p = refl

next_shows : (q : Queue) (p : Payload) (sink : Bool) → ready q ≡ true → is_any (shown (next q (p ∷ []) sink)) ≡ true
next_shows q p sink e = rw e (joined_shows (cond sink (rest q.held) q.held) p)

module _ (lanes : ℕ) (qs : List Queue) (wide : Wide) (l : legal_lanes lanes ≡ true) (s : strobe_past lanes wide ≡ false)
    (room : (i : ℕ) → i < lanes → ready (behind qs i) ≡ true) where
  abbrev readies : List Bool
  readies = map ready qs

  ready_behind : (i : ℕ) → ready_at readies i ≡ ready (behind qs i)
  ready_behind i = get_or-map ready qs i (empty (plain 0))

  all : all_ready lanes readies ≡ true
  all = every_below_lem (ready_at readies) lanes (λ i h. ready_behind i ∙ room i h)

  taken : TakenAtOnce lanes qs wide
  taken = record { source_ready = source; wired = wire; joins = join; shows_next = shows }
    where
      source : (valid : Bool) → (ofSplit.answer lanes valid wide readies).outputs.ready ≡ true
      source valid = ap (λ (a : Answer SplitCycle). a.outputs.ready) (split_accepts lanes valid wide readies l s) ∙ all

      -- branch i's offer
      at_lane : (valid : Bool) (i : ℕ) → i < lanes →
          offer_at (ofSplit.answer lanes valid wide readies).outputs.branches i
          ≡ offer_when (valid && all_ready lanes readies) (lane wide i)
      at_lane valid i h =
          ap (λ (a : Answer SplitCycle). offer_at a.outputs.branches i) (split_accepts lanes valid wide readies l s)
          ∙ lane_entry no_offer (λ j. offer_when (valid && all_ready lanes readies) (lane wide j)) lanes i (lanes_few lanes l) h

      wire : (valid : Bool) (i : ℕ) → i < lanes → (sink : Bool) → (fifo_in lanes qs valid wide i sink).ready ≡ ready_at readies i
      wire valid i h sink =
          ap (λ (o : Offer). (step_of (well (behind qs i)) o.valid o.payload sink false).ready) (at_lane valid i h)
          ∙ ready_without_valid_lem (behind qs i) _ sink _ (offer_legal (valid && all_ready lanes readies) wide i)
          ∙ sym (ready_behind i)

      join : (i : ℕ) → i < lanes → (sink : Bool) → (fifo_in lanes qs true wide i sink).next ≡ well (next (behind qs i) (lane wide i ∷ []) sink)
      join i h sink =
          ap (λ (o : Offer). (step_of (well (behind qs i)) o.valid o.payload sink false).next)
          (at_lane true i h ∙ ap (λ (b : Bool). offer_when b (lane wide i)) all)
          ∙ ap (λ (a : ofFifo.Answer). a.next) (step_legal (behind qs i) true sink false (lane wide i) (lane_legal wide i))

      shows : (i : ℕ) → i < lanes → (sink : Bool) → is_any (shown (next (behind qs i) (lane wide i ∷ []) sink)) ≡ true
      shows i h sink = next_shows (behind qs i) (lane wide i) sink (room i h)

pub fifos_take_at_once_lem : FifosTakeAtOnce
fifos_take_at_once_lem lanes qs wide none room =
    let w = none_keeps (ofSplit.grounds lanes wide) none in taken lanes qs wide (not-false (legal_lanes lanes) w.0) w.1.0 room
