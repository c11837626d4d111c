-- A step that was made and a delivery time that was found keep their promise: no ground applies to them, and part by part they are the
-- rules'. So does a delivery time that is refused with the number that is given; and places by value make what the list makes that they
-- were read off. Assumes nothing.
use mathlib.Core.Path.{◌≡◌, sym, ap, ◌∙◌}
use mathlib.Core.Bool.{true, false}
use mathlib.Core.List.{List, map}
use mathlib.Core.Logic.{⊎_elim}
use mathlib.Core.Option.{Option, some}
use Prim.Native.Nat.{ℕ, ◌<◌}
use borrow.Author.Tests.{lt-leb}
use lib.ListN.{length, take}
use lib.Seq.{take-length}
use Rattle.std.specs.Prelude.{Result, Ok, Err, IfOk}
use Rattle.signals.specs.declared.Refusal.{Refusal}
use Rattle.signals.specs.declared.Stepped.{Stepped}
use Rattle.signals.specs.Payloads.{legal_strb}
use Rattle.signals.specs.Refusals.{number_of, refusal_of}
use Rattle.signals.specs.Tables.{first_applying}
use Rattle.signals.proofs.Bools.{either, clash}
use Rattle.fifo.specs.declared.Place.{Place}
use Rattle.fifo.specs.Queue.{is_any, shown_as, empty}
use Rattle.places.specs.declared.Places.{Places}
use Rattle.places.specs.Listing.{legal_count, places_of, Lists}
use Rattle.chain.specs.declared.Chain.{Chain}
use Rattle.chain.specs.Line.{held_in}
use Rattle.chain.specs.Cycles.{Cycle, ready_in, shown_in, after}
use Rattle.chain.specs.Calls.{well, is_well, queues}
use Rattle.chain.specs.Timing.{delivery_time, time_grounds, timing_by}
use Rattle.chain.specs.Promises.{value, Made, Promised, step_done, Times}

-- places that were read off a lent list: with a count that is not legal both are refused as none are
pub made_read : (lent : List Place) (places : Places) (r : Result Chain Refusal) → Lists lent places → Made (places_of places) r → Made lent r
made_read lent places r lists made = ⊎_elim legal illegal (either (legal_count (length lent)))
  where
    legal : legal_count (length lent) ≡ true → Made lent r
    legal e =
        let count : places.count ≡ length lent = lists.count ∙ rw e in
        let same : take places.count places.listed ≡ lent = lists.listed ∙ rw count (take-length lent) in
        rw same at (rw (ap legal_count count ∙ e) at made)

    none_made : (r : Result Chain Refusal) → refusal_of r ≡ some 5 → IfOk r (λ new. value new ≡ well (map empty lent))
    none_made (Ok new) e = absurd (clash cc)
    none_made (Err why) e = tt

    illegal : legal_count (length lent) ≡ false → Made lent r
    illegal e =
        let count : places.count ≡ 0 = lists.count ∙ rw e in
        let none = rw count at made in
        record { refusal = none.refusal ∙ rw e; gives = none_made r none.refusal }

-- a step that was made, part by part
pub step_made : (chain : Chain) (c : Cycle) (r : Stepped Chain) → is_well (value chain) ≡ true → legal_strb c.payload ≡ true
    → r.ready ≡ ready_in (queues (value chain)) c
    → r.valid ≡ is_any (shown_in (queues (value chain)) c)
    → r.payload ≡ shown_as (shown_in (queues (value chain)) c)
    → value r.next ≡ well (after (queues (value chain)) c)
    → Promised chain (step_done chain c (Ok r))
step_made chain c r form legal by_ready by_valid by_payload next =
    record {
      answers = rw (form, legal, by_ready, by_valid, by_payload);
      gives = rw (form, legal) next;
      kept = λ n. absurd (let e = rw (form, legal) at n in clash cc);
    }

-- a delivery time that was found
pub time_found : (chain : Chain) (i cycles : ℕ) → is_well (value chain) ≡ true → i < length (held_in (queues (value chain)))
    → cycles ≡ delivery_time (queues (value chain)) i → Times chain i (Ok cycles)
time_found chain i cycles form held e = rw (form, lt-leb (length (held_in (queues (value chain)))) i held, e)

-- and one that is refused, for the chain's form or for the payload
pub time_refused : (chain : Chain) (i : ℕ) (why : Refusal) → first_applying (time_grounds (value chain) i) ≡ some (number_of why)
    → Times chain i (Err why)
time_refused chain i why given = sym (ap (λ (o : Option ℕ). timing_by o (queues (value chain)) i) given)
