-- The exact delivery time.
-- Idea: with the sink ready in every cycle `need` falls by one exactly, so that the i + 1 payloads nearest the outlet are gone after as
-- many cycles as they need and not sooner; a cycle delivers one at most, and by the order those delivered are the first ones held.
-- Assumes nothing.
use Prim.Native.Nat.{ℕ, zero, suc, ◌+◌, ◌-◌, ◌≤◌, ◌<◌}
use native.Mathlib.Omega.{arith}
use native.Mathlib.Numerals.{add-one}
use mathlib.Core.Bool.{Bool, true, false, false≢true}
use mathlib.Core.List.{List, [], ◌∷◌, ◌++◌, map}
use mathlib.Core.Logic.Iff
use mathlib.Core.Logic.{◌↔◌}
use mathlib.Core.Path.{◌≡◌, refl, sym, ◌∙◌, ap, subst}
use lib.ListN.{length, take, length-append, length-take}
use lib.Seq.{length-take-le, take-append_seam, take-append-le, take-append-add}
use borrow.Author.Tests.{leb-false}
use lib.Dec.{leb}
use Rattle.std.specs.Prelude.{Ok}
use Rattle.signals.specs.declared.Payload.{Payload}
use Rattle.signals.specs.Refusals.{accepts}
use Rattle.signals.proofs.Bools.{clash}
use Rattle.fifo.specs.declared.Fifo.{Fifo}
use Rattle.fifo.specs.Queue as queue
use Rattle.fifo.specs.Queue.{Queue}
use Rattle.fifo.specs.Promises as fifo
use Rattle.fifo.proofs.Depths.{capacity_least}
use Rattle.fifo.proofs.Held.{held_within}
use Rattle.chain.specs.declared.Chain.{Chain}
use Rattle.chain.specs.Line.{held_in}
use Rattle.chain.specs.Cycles.{Cycle}
use Rattle.chain.specs.Calls.{Value, well, is_well, queues}
use Rattle.chain.specs.Timing.{delivery_time, Timing, timing}
use Rattle.chain.specs.Promises.{value, timed}
use Rattle.chain.proofs.Used.{formed, wells_of_line}
use Rattle.chain.proofs.Need.{count, need, by_size, need_bound}
use Rattle.chain.proofs.Timing.{need_time}
use Rattle.demand3.specs.Demand3.{Ledger, opened, entered, entered_all, CapacityAtLeast2, readies, NoClear, Begins}
use Rattle.demand3.specs.ExactTime.{Drains, Delivers, DeliveredAt, Claim, FromEmpty, ArrivalsAlterNothing, AnswerIsTime, WithinBound}
use Rattle.demand3.proofs.Falls.{need_zero, Falls}
use Rattle.demand3.proofs.Ledger.{Sound, sound_entered, sound_all, sound_opened, gone, gone_one, gone_delivered, others_held, others_need, stretch_delivers, accepted_grows}
use Rattle.demand3.proofs.Demand3.{new_legal}

-- Cycles that drain: they have no clear, the sink is ready in each, and their first n drain.
drains_no_clear : (cs : List Cycle) → Drains cs → NoClear cs
drains_no_clear [] d = tt
drains_no_clear (c ∷ cs) d = (d.0.1, drains_no_clear cs d.1)

drains_readies : (cs : List Cycle) → Drains cs → readies cs ≡ length cs
drains_readies [] d = refl
drains_readies (c ∷ cs) d = rw d.0.0 (omega (arith, drains_readies cs d.1))

drains_take : (n : ℕ) (cs : List Cycle) → Drains cs → Drains (take n cs)
drains_take zero cs d = tt
drains_take (suc n) [] d = tt
drains_take (suc n) (c ∷ cs) d = (d.0, drains_take n cs d.1)

-- The m payloads nearest the outlet are not delivered sooner than they need.
not_sooner : (k : ℕ) (l : Ledger) (m : ℕ) (cs : List Cycle) → Sound k l → m ≤ count l.line → Drains cs →
    length l.delivered + m ≤ length (entered_all l cs).delivered → need l.line m ≤ length cs
not_sooner k l m [] s h d delivered = omega (arith, need_zero l.line m (omega arith))
not_sooner k l m (c ∷ cs) s h d delivered = by_size m 0
    (λ none. omega (arith, need_zero l.line m none))
    (λ some.
    omega (
      arith,
      falls,
      not_sooner k (entered l c) (m - gone l c) cs (sound_entered k l c s) (others_held l c d.0.1 m h) d.1
          (omega (arith, delivered, gone_one l c, gone_delivered l c d.0.1)),
    ))
  where
    falls : need (entered l c).line (m - gone l c) ≡ need l.line m - 1
    falls = subst (λ sink. Falls sink (need (entered l c).line (m - gone l c)) (need l.line m)) d.0.0 (others_need k l c s d.0.1 m h)

-- a cycle more delivers one more at most
one_more : (l : Ledger) (cs : List Cycle) → Drains cs → (n : ℕ) →
    length (entered_all l (take (suc n) cs)).delivered ≤ length (entered_all l (take n cs)).delivered + 1
one_more l [] d zero = omega arith
one_more l [] d (suc n) = omega arith
one_more l (c ∷ cs) d zero = omega (arith, gone_one l c, gone_delivered l c d.0.1)
one_more l (c ∷ cs) d (suc n) = one_more (entered l c) cs d.1 n

-- so many delivered are the first of those held
delivered_first : (k : ℕ) (l : Ledger) (cs : List Cycle) → Sound k l → Drains cs → (m : ℕ) → m ≤ count l.line →
    length (entered_all l cs).delivered ≡ length l.delivered + m →
    (entered_all l cs).delivered ≡ l.delivered ++ take m (held_in l.line)
delivered_first k l cs s d m h e =
    sym (take-append_seam delivered held)
    ∙ ap (λ n. take n (delivered ++ held)) e
    ∙ ap (take (length l.delivered + m)) (sym (sound_all k l cs s).order ∙ more.1 ∙ ap (λ x. x ++ more.0) s.order)
    ∙ take-append-le (length l.delivered + m) (l.delivered ++ held_in l.line) more.0
    (omega (arith, length-append l.delivered (held_in l.line), h))
    ∙ take-append-add l.delivered (held_in l.line) m
  where
    delivered : List Payload
    delivered = (entered_all l cs).delivered

    held : List Payload
    held = held_in (entered_all l cs).line

    more : Begins l.accepted (entered_all l cs).accepted
    more = accepted_grows l cs (drains_no_clear cs d)

-- The claim of a ledger whose order is kept.
sound_time : (k : ℕ) (l : Ledger) → Sound k l → (i : ℕ) → i < count l.line → DeliveredAt l i (delivery_time l.line i)
sound_time k l s i held cs d enough n = (is_time, at_time)
  where
    time : ℕ
    time = delivery_time l.line i

    after : ℕ → ℕ
    after m = length (entered_all l (take m cs)).delivered

    -- payload i and those ahead are delivered after so many cycles exactly when these are more than its time
    in_time : (m : ℕ) → time + 1 ≤ length (take m cs) → length l.delivered + suc i ≤ after m
    in_time m h =
        let e = drains_take m cs d in
        stretch_delivers k l (suc i) (take m cs) s held (drains_no_clear (take m cs) e)
        (omega (arith, need_time l.line i held, drains_readies (take m cs) e))

    no_sooner : (m : ℕ) → length l.delivered + suc i ≤ after m → time + 1 ≤ length (take m cs)
    no_sooner m h = omega (arith, need_time l.line i held, not_sooner k l (suc i) (take m cs) s held (drains_take m cs d) h)

    -- m of those held are delivered
    first : (m : ℕ) → m ≤ count l.line → (c : ℕ) → after c ≡ length l.delivered + m →
        (entered_all l (take c cs)).delivered ≡ l.delivered ++ take m (held_in l.line)
    first m h c e = delivered_first k l (take c cs) s (drains_take c cs d) m h e

    first_length : (m : ℕ) → m ≤ count l.line → length (l.delivered ++ take m (held_in l.line)) ≡ length l.delivered + m
    first_length m h = length-append l.delivered _ ∙ ap (λ x. length l.delivered + x) (length-take-le m (held_in l.line) h)

    is_time : Delivers l cs n i → n ≡ time
    is_time e =
        let before : after n ≡ length l.delivered + i = ap length e.before ∙ first_length i (omega arith) in
        let with_it : after (n + 1) ≡ length l.delivered + (i + 1) = ap length e.after ∙ first_length (i + 1) (omega arith) in
        by_size (time + 1) (length (take n cs))
        (λ h. let z : ⊥ = omega (arith, before, in_time n h) in absurd z)
        (λ h. omega (arith, enough, length-take n cs, length-take (n + 1) cs, no_sooner (n + 1) (omega (arith, with_it))))

    at_time : n ≡ time → Delivers l cs n i
    at_time e = by_size (length l.delivered + suc i) (after n)
        (λ h. let z : ⊥ = omega (arith, e, length-take n cs, no_sooner n h) in absurd z)
        (λ h.
        let with_it = in_time (n + 1) (omega (arith, e, enough, length-take (n + 1) cs)) in
        let one = rw (← add-one n) at (one_more l cs d n) in
        record {
          before = first i (omega arith) n (omega (arith, with_it, one));
          after = first (i + 1) (omega arith) (n + 1) (omega (arith, with_it, one));
        })

-- What is delivered does not hang on what was accepted before, so that the order may be taken for kept.
delivered_same : (l : Ledger) (accepted : List Payload) (cs : List Cycle) →
    (entered_all l cs).delivered ≡ (entered_all (record { line = l.line; accepted = accepted; delivered = l.delivered }) cs).delivered
delivered_same l accepted [] = refl
delivered_same l accepted (c ∷ cs) = delivered_same (entered l c) _ cs

pub exact_time : Claim
exact_time l room i held cs d enough n =
    Iff.trans (kept_delivers, given_delivers)
    (sound_time (length l.line) kept (record { order = refl; size = refl; room = room }) i held cs d enough n)
  where
    kept : Ledger
    kept = record { line = l.line; accepted = l.delivered ++ held_in l.line; delivered = l.delivered }

    same : (m : ℕ) → (entered_all l (take m cs)).delivered ≡ (entered_all kept (take m cs)).delivered
    same m = delivered_same l (l.delivered ++ held_in l.line) (take m cs)

    kept_delivers : Delivers l cs n i → Delivers kept cs n i
    kept_delivers e = record { before = sym (same n) ∙ e.before; after = sym (same (n + 1)) ∙ e.after }

    given_delivers : Delivers kept cs n i → Delivers l cs n i
    given_delivers e = record { before = same n ∙ e.before; after = same (n + 1) ∙ e.after }

pub from_empty : FromEmpty
from_empty places accepted past i held =
    exact_time (entered_all (opened places) past)
    (sound_all (length places) (opened places) past (sound_opened places (new_legal places accepted).room)).room
    i
    held

pub arrivals_alter_nothing_lem : ArrivalsAlterNothing
arrivals_alter_nothing_lem l room i held cs ds c d long-c long-d n =
    Iff.trans (exact_time l room i held cs c long-c n) (Iff.symm (exact_time l room i held ds d long-d n))

-- FIFOs that have their form have capacity at least 2.
fifos_room : (fs : List Fifo) (qs : List Queue) → map fifo.value fs ≡ map queue.well qs → CapacityAtLeast2 qs
fifos_room fs [] e = tt
fifos_room [] (q ∷ qs) e = absurd (clash cc)
fifos_room (f ∷ fs) (q ∷ qs) e = (capacity_least q.place (held_within f q (cc)).place, fifos_room fs qs (cc))

chain_room : (chain : Chain) (qs : List Queue) → value chain ≡ well qs → CapacityAtLeast2 qs
chain_room chain qs v =
    let f = formed chain (ap is_well v) in
    fifos_room (take chain.count chain.fifos) qs
    (wells_of_line _ qs (f.row ∙ ap (λ (w : Value). well (queues w)) v))

pub answer_is_time_lem : AnswerIsTime
answer_is_time_lem given i cycles times l v cs d enough n = by_held (leb (count l.line) i) refl
  where
    answered : timed (Ok cycles) ≡ timing (well l.line) i
    answered = times ∙ ap (λ (w : Value). timing w i) v

    by_held : (b : Bool) → leb (count l.line) i ≡ b → Delivers l cs n i ↔ (n ≡ cycles)
    by_held true e = absurd (false≢true (sym (ap (λ (t : Timing). accepts t.refusal) (rw e at answered))))
    by_held false e =
        let same : cycles ≡ delivery_time l.line i = ap (λ (t : Timing). t.cycles) (rw e at answered) in
        rw same
        (exact_time l (chain_room given l.line v) i (leb-false (count l.line) i e) cs d (omega (arith, same, enough)) n)

-- the bound of `need` is one of the time
pub within_bound_lem : WithinBound
within_bound_lem qs i h = omega (arith, need_bound qs (suc i), need_time qs i h)
