-- A FIFO's numbers in range, as facts (`Form`) and as the test, and how emptying, popping and pushing keep them.
-- Each of the three is said of the FIFO with the numbers and slots of the code, and gives the queue that it stands for. Assumes nothing.
use Prim.Native.Nat.{ℕ, zero, suc, ◌+◌, ◌-◌, ◌*◌, ◌≤◌, ◌<◌}
use native.Mathlib.Numerals.{add-one}
use native.Mathlib.Omega.{arith}
use mathlib.Core.Bool.{Bool, true, false, cond, ◌&&◌, false≢true}
use mathlib.Core.List.{List, [], ◌∷◌, ◌++◌, append-nil}
use mathlib.Core.Path.{◌≡◌, refl, sym, ap, ◌∙◌}
use borrow.Author.Tests.{lt-ltb, le-leb, leb-true, ltb-true}
use lib.Dec.{ltb}
use lib.ListN.{length, get_or, set}
use Rattle.signals.specs.declared.Payload.{Payload}
use Rattle.signals.specs.Payloads.{zeros}
use Rattle.signals.proofs.Bools.{both, clash}
use Rattle.fifo.specs.declared.Place.{Place}
use Rattle.fifo.specs.declared.Fifo.{Fifo}
use Rattle.fifo.specs.Queue.{Queue, ill, well, ready_of, capacity, max_depth, legal_place, empty, ready, rest, is_any, oldest, shown, shown_as, when, next}
use Rattle.fifo.specs.Ring.{ring, wrapped, pointers_of, ready_in, queue_of, in_range, trusted, EveryPlace}
use Rattle.fifo.specs.Turn.{popped}
use Rattle.fifo.proofs.Depths.{depth_most, capacity_least, capacity_most}
use Rattle.fifo.proofs.Places.{place_is_remainder_lem, wrapped_below}
use Rattle.fifo.proofs.Slots.{ring_length, ring_oldest, ring_at, store_joins_end}

pub record Form (f : Fifo) : Type 0 where
  pub place : legal_place f.place ≡ true
  pub oldest : f.oldest < f.place.depth
  pub count : f.count ≤ capacity f.place

pub form_of : (f : Fifo) → in_range f ≡ true → Form f
form_of f e =
    let a = both (legal_place f.place) _ e in
    let b = both (ltb f.oldest f.place.depth) _ a.1 in
    record { place = a.0; oldest = ltb-true _ _ b.0; count = leb-true _ _ b.1 }

-- from the position, a count up to the capacity passes the end of the ring at most once
sum_once : (f : Fifo) → Form f → (count : ℕ) → count ≤ capacity f.place → f.oldest + count < 2 * f.place.depth
sum_once f form count most = omega (arith, form.oldest, capacity_most f.place)

-- the numbers are those of the slots
pub depth_within : (f : Fifo) → in_range f ≡ true → f.place.depth ≤ max_depth
depth_within f e = depth_most f.place (form_of f e).place

pub every_place_lem : EveryPlace
every_place_lem f e =
    let form = form_of f e in
    record {
      once = sum_once f form;
      end = place_is_remainder_lem f.place.depth f.oldest f.count (sum_once f form f.count form.count);
      next_oldest = place_is_remainder_lem f.place.depth f.oldest 1 (sum_once f form 1 (omega (arith, capacity_least f.place form.place)));
      held = λ i below. ring_at f.slots f.place.depth f.oldest f.count i form.oldest below;
    }

-- a place up to the end has its slot in the ring, and so within the slots
pub place_below : (f : Fifo) (count : ℕ) → in_range f ≡ true → count ≤ f.count → wrapped f.place.depth (f.oldest + count) < f.place.depth
place_below f count e most =
    let form = form_of f e in wrapped_below f.place.depth f.oldest count (sum_once f form count (omega (arith, form.count)))

pub place_within : (f : Fifo) (count : ℕ) → in_range f ≡ true → count ≤ f.count → wrapped f.place.depth (f.oldest + count) < max_depth
place_within f count e most = omega (arith, place_below f count e most, depth_within f e)

in_range_lem : (f : Fifo) → Form f → in_range f ≡ true
in_range_lem f form = rw (form.place, lt-ltb _ _ form.oldest, le-leb _ _ form.count)

pub trusted_in_lem : (f : Fifo) → in_range f ≡ true → trusted f ≡ well (queue_of f)
unfolding trusted
trusted_in_lem f e = rw e

pub trusted_out : (f : Fifo) → in_range f ≡ false → trusted f ≡ ill
unfolding trusted
trusted_out f e = rw e

pub trusted_form : (f : Fifo) → Form f → trusted f ≡ well (queue_of f)
trusted_form f form = trusted_in_lem f (in_range_lem f form)

pub count_held : (f : Fifo) → length (queue_of f).held ≡ f.count
count_held f = ring_length f.slots f.place.depth f.oldest f.count

-- ready is a comparison of the numbers
pub ready_count : (f : Fifo) → ready (queue_of f) ≡ ready_in (pointers_of f)
ready_count f = rw (count_held f)

-- and so is whether something is shown
pub shows_count : (f : Fifo) → is_any (shown (queue_of f)) ≡ ltb 0 f.count
unfolding ring
shows_count f = by_count f.count
  where
    by_count : (n : ℕ) → is_any (oldest (ring f.slots f.place.depth f.oldest n)) ≡ ltb 0 n
    by_count zero = refl
    by_count (suc n) = sym (lt-ltb 0 (suc n) (omega arith))

-- the payload shown is the one at the position of the oldest, where something is held, and else zeros
pub shows_oldest : (f : Fifo) → 0 < f.count → shown_as (shown (queue_of f)) ≡ get_or f.slots f.oldest zeros
shows_oldest f some = rw (ring_oldest f.slots f.place.depth f.oldest f.count some)

pub shows_zeros : (f : Fifo) → f.count ≤ 0 → shown_as (shown (queue_of f)) ≡ zeros
unfolding ring
shows_zeros f none = let nothing : f.count ≡ 0 = omega arith in rw nothing

pub ready_trusted : (f : Fifo) → ready_of (trusted f) ≡ (in_range f && ready (queue_of f))
unfolding trusted
ready_trusted f = by_test (in_range f) (queue_of f)
  where
    by_test : (b : Bool) (q : Queue) → ready_of (cond b (well q) ill) ≡ (b && ready q)
    by_test true q = refl
    by_test false q = refl

-- a FIFO that stands for a queue by its numbers has them in range, and the queue is the one in its slots
pub trusted_well : (f : Fifo) (q : Queue) → trusted f ≡ well q → (in_range f ≡ true) × (queue_of f ≡ q)
unfolding trusted
trusted_well f q e = by_test (in_range f) (queue_of f) e
  where
    by_test : (b : Bool) (r : Queue) → cond b (well r) ill ≡ well q → (b ≡ true) × (r ≡ q)
    by_test true r e = (refl, (cc))
    by_test false r e = absurd (clash cc)

pub trusted_range : (f : Fifo) (q : Queue) → trusted f ≡ well q → in_range f ≡ true
trusted_range f q e = (trusted_well f q e).0

-- nothing is held, wherever the next is to lie
pub count_0_empty : (place : Place) (oldest : ℕ) (slots : List Payload) → legal_place place ≡ true → oldest < place.depth
    → trusted (record { place = place; count = 0; oldest = oldest; slots = slots }) ≡ well (empty place)
unfolding ring
count_0_empty place oldest slots legal within =
    trusted_form (record { place = place; count = 0; oldest = oldest; slots = slots })
    (record { place = legal; oldest = within; count = omega arith })

-- the oldest has left
abbrev pub after_pop : Fifo → Fifo
after_pop f = record { place = f.place; count = f.count - 1; oldest = wrapped f.place.depth (f.oldest + 1); slots = f.slots }

pub pop_leaves_rest : (f : Fifo) → in_range f ≡ true → 0 < f.count
    → trusted (after_pop f) ≡ well (record { place = f.place; held = rest (queue_of f).held })
pop_leaves_rest f e some =
    let form = form_of f e in
    trusted_form (after_pop f)
    (record {
      place = form.place;
      oldest = wrapped_below f.place.depth f.oldest 1 (omega (arith, form.oldest));
      count = omega (arith, form.count);
    })
    ∙ ap (λ (l : List Payload). well (record { place = f.place; held = l }))
    (sym (ap rest (ring_oldest f.slots f.place.depth f.oldest f.count some)))

-- where the sink is not ready or nothing is held, the queue is as it was
pub no_pop : (f : Fifo) (sink : Bool) → in_range f ≡ true → (sink && ltb 0 f.count) ≡ false
    → trusted f ≡ well (popped (queue_of f) sink)
no_pop f sink e none =
    trusted_in_lem f e
    ∙ ap (λ (l : List Payload). well (record { place = f.place; held = l }))
    (sym (same (queue_of f).held sink (ap (λ (b : Bool). sink && b) (shows_count f) ∙ none)))
  where
    same : (ps : List Payload) (s : Bool) → (s && is_any (oldest ps)) ≡ false → cond s (rest ps) ps ≡ ps
    same [] true n = refl
    same [] false n = refl
    same (p ∷ ps) true n = absurd (false≢true (sym n))
    same (p ∷ ps) false n = refl

-- a payload has joined
abbrev pub after_push : Fifo → Payload → Fifo
after_push f p =
    record { place = f.place; count = f.count + 1; oldest = f.oldest; slots = set f.slots (wrapped f.place.depth (f.oldest + f.count)) p }

push_joins_end : (f : Fifo) (p : Payload) → in_range f ≡ true → f.place.depth ≤ length f.slots → ready (queue_of f) ≡ true
    → trusted (after_push f p) ≡ well (record { place = f.place; held = (queue_of f).held ++ (p ∷ []) })
push_joins_end f p e wide room =
    let form = form_of f e in
    let below : f.count < capacity f.place = ltb-true _ _ (sym (ready_count f) ∙ room) in
    let fits = capacity_most f.place in
    trusted_form (after_push f p) (record { place = form.place; oldest = form.oldest; count = omega arith })
    ∙ ap (λ (l : List Payload). well (record { place = f.place; held = l }))
    (rw (add-one f.count) (store_joins_end f.slots f.place.depth f.oldest f.count p (omega arith) form.oldest (omega arith)))

module _ (f left : Fifo) (sink : Bool) (pops : trusted left ≡ well (popped (queue_of f) sink)) where
  -- the numbers stay in range, and the queue in the slots is the popped one
  popped_well : (in_range left ≡ true) × (queue_of left ≡ popped (queue_of f) sink)
  popped_well = trusted_well left (popped (queue_of f) sink) pops

  pub pop_in_range : in_range left ≡ true
  pop_in_range = popped_well.0

  pub pop_place : left.place ≡ f.place
  pop_place = ap (λ (q : Queue). q.place) popped_well.1

  -- what had room has room
  pop_keeps_room : ready (queue_of f) ≡ true → ready (queue_of left) ≡ true
  pop_keeps_room room = ap ready popped_well.1 ∙ by_sink (queue_of f) sink room
    where
      rest_length : (ps : List Payload) → length (rest ps) ≤ length ps
      rest_length [] = omega arith
      rest_length (p ∷ ps) = omega arith

      by_sink : (q : Queue) (s : Bool) → ready q ≡ true → ready (popped q s) ≡ true
      by_sink q true r =
          lt-ltb (length (rest q.held)) (capacity q.place) (omega (arith, rest_length q.held, ltb-true (length q.held) (capacity q.place) r))
      by_sink q false r = r

  -- what is offered while there was room, joined to what the pop left, makes the cycle's queue
  module _ (offer : Bool) (p : Payload) where
    offered_joins : well (record { place = left.place; held = (queue_of left).held ++ when (offer && ready (queue_of f)) (p ∷ []) })
        ≡ well (next (queue_of f) (when offer (p ∷ [])) sink)
    offered_joins =
        ap (λ (q : Queue). well (record { place = q.place; held = q.held ++ when (offer && ready (queue_of f)) (p ∷ []) })) popped_well.1
        ∙ ap (λ (l : List Payload). well (record { place = f.place; held = (popped (queue_of f) sink).held ++ l }))
        (by_tests offer (ready (queue_of f)))
      where
        by_tests : (a b : Bool) → when (a && b) (p ∷ []) ≡ when b (when a (p ∷ []))
        by_tests true true = refl
        by_tests true false = refl
        by_tests false true = refl
        by_tests false false = refl

    pub push_makes_next : left.place.depth ≤ length left.slots → (offer && ready (queue_of f)) ≡ true
        → trusted (after_push left p) ≡ well (next (queue_of f) (when offer (p ∷ [])) sink)
    push_makes_next wide joins =
        push_joins_end left p pop_in_range wide (pop_keeps_room (both offer (ready (queue_of f)) joins).1) ∙ rw joins at offered_joins

    pub no_push : (offer && ready (queue_of f)) ≡ false → trusted left ≡ well (next (queue_of f) (when offer (p ∷ [])) sink)
    no_push none = trusted_in_lem left pop_in_range ∙ rw (none, append-nil) at offered_joins
