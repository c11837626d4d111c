-- One cycle of the numbers is the rule's cycle: the payload shown is at the position of the oldest, and what is left is what a pop, and
-- then a push of what is offered while ready, would leave. And what writing one slot does to slots and to lent memory. Assumes nothing.
use Prim.Native.Nat.{ℕ, ◌+◌, ◌≤◌, ◌<◌}
use native.Mathlib.Omega.{arith}
use mathlib.Core.Bool.{Bool, true, false, cond, not, ◌&&◌, false≢true}
use mathlib.Core.List.{List, [], ◌∷◌}
use mathlib.Core.Path.{◌≡◌, refl, sym, ap, ◌∙◌}
use borrow.Author.Tests.{ltb-true, ltb-false}
use lib.Dec.{ltb}
use lib.ListN.{length, drop, length-set}
use lib.Seq.{drop-set-lt}
use mathlib.Core.Option.{none}
use Rattle.std.specs.Prelude.{Option, Some, None, is_some, IfSome}
use Rattle.std.specs.Bool.{then_some}
use Rattle.signals.specs.declared.Payload.{Payload}
use Rattle.signals.specs.Payloads.{zeros}
use Rattle.fifo.specs.declared.Place.{Place}
use Rattle.fifo.specs.declared.Pointers.{Pointers}
use Rattle.fifo.specs.declared.ring.Turn.{Turn}
use Rattle.fifo.specs.Queue.{Queue, Value, well, ready, shown, shown_as, is_any, next, when, emptied, cycle_of}
use Rattle.fifo.specs.Ring.{wrapped, ready_in, fifo_with, queue_of, numbers_in_range, trusted}
use Rattle.fifo.specs.Memory.{slots_in, has_slots, trusted_in}
use Rattle.fifo.specs.Turn.{shown_from, set_at, popped, Shows, Turns}
use Rattle.fifo.proofs.Form.{form_of, place_below, ready_count, shows_count, shows_oldest, shows_zeros, pop_in_range, pop_place, push_makes_next, no_push, count_0_empty}
use Rattle.fifo.proofs.LentSlots.{slots_set, slots_kept, trusted_memory}

-- a clear
pub turns_cleared : (p : Pointers) (valid : Bool) (offer : Payload) (sink : Bool) → numbers_in_range p ≡ true
    → Turns p valid offer sink true (record { ready = false; joined = None; next = record { place = p.place; count = 0; oldest = p.oldest } })
turns_cleared p valid offer sink e =
    let form = form_of (fifo_with p []) e in
    record {
      within = tt;
      same_place = refl;
      ready = λ slots. refl;
      next = λ slots fits. count_0_empty p.place p.oldest slots form.place form.oldest;
    }

-- the slot that is shown, where something is held and it is no clear
pub shows_by : (p : Pointers) → numbers_in_range p ≡ true → (clear any : Bool) → (not clear && ltb 0 p.count) ≡ any
    → Shows p clear (then_some any p.oldest)
shows_by p e true true test = absurd (false≢true test)
shows_by p e true false test = record { within = tt; valid = λ slots. refl; payload = λ slots. refl }
shows_by p e false true test =
    record {
      within = (form_of (fifo_with p []) e).oldest;
      valid = λ slots. sym (shows_count (fifo_with p slots) ∙ test);
      payload = λ slots. sym (shows_oldest (fifo_with p slots) (ltb-true 0 p.count test));
    }
shows_by p e false false test =
    record {
      within = tt;
      valid = λ slots. sym (shows_count (fifo_with p slots) ∙ test);
      payload = λ slots. sym (shows_zeros (fifo_with p slots) (ltb-false 0 p.count test));
    }

-- a cycle, once the oldest has left where the sink is ready
module _ (p left : Pointers) (valid : Bool) (offer : Payload) (sink is-ready : Bool) (by-ready : is-ready ≡ ready_in p)
    (pops : (slots : List Payload) → trusted (fifo_with left slots) ≡ well (popped (queue_of (fifo_with p slots)) sink)) where
  same-place : left.place ≡ p.place
  same-place = pop_place (fifo_with p []) (fifo_with left []) sink (pops [])

  same-depth : left.place.depth ≡ p.place.depth
  same-depth = ap (λ (at : Place). at.depth) same-place

  left_in_range : numbers_in_range left ≡ true
  left_in_range = pop_in_range (fifo_with p []) (fifo_with left []) sink (pops [])

  room : (slots : List Payload) → is-ready ≡ ready (queue_of (fifo_with p slots))
  room slots = by-ready ∙ sym (ready_count (fifo_with p slots))

  joins : (slots : List Payload) → valid && ready (queue_of (fifo_with p slots)) ≡ valid && is-ready
  joins slots = sym (ap (λ (b : Bool). valid && b) (room slots))

  -- where a payload joins, and where none does
  pub turns_joined : (end : ℕ) → end ≡ wrapped left.place.depth (left.oldest + left.count) → valid && is-ready ≡ true
      → Turns p valid offer sink false
      (record { ready = is-ready; joined = Some end; next = record { place = left.place; count = left.count + 1; oldest = left.oldest } })
  turns_joined end at joined =
      record {
        within = omega (arith, at, same-depth, place_below (fifo_with left []) left.count left_in_range (omega arith));
        same_place = same-place;
        ready = room;
        next = λ slots fits. rw at
            (push_makes_next (fifo_with p slots) (fifo_with left slots) sink (pops slots) valid offer
            (omega (arith, fits, same-depth))
            (joins slots ∙ joined));
      }

  pub turns_kept : valid && is-ready ≡ false → Turns p valid offer sink false (record { ready = is-ready; joined = None; next = left })
  turns_kept kept =
      record {
        within = tt;
        same_place = same-place;
        ready = room;
        next = λ slots fits. no_push (fifo_with p slots) (fifo_with left slots) sink (pops slots) valid offer (joins slots ∙ kept);
      }

-- an entry written where one is: the length stays, and what lies past it
pub length_set_at : {A : Type 0} (xs : List A) (o : Option ℕ) (x : A) → length (set_at xs o x) ≡ length xs
length_set_at xs None x = refl
length_set_at xs (Some at) x = length-set xs at x

pub drop_set_at : {A : Type 0} (n : ℕ) (xs : List A) (o : Option ℕ) (x : A) → IfSome o (λ at. at < n) → drop n (set_at xs o x) ≡ drop n xs
drop_set_at n xs None x h = refl
drop_set_at n xs (Some at) x h = drop-set-lt n xs at x h

-- a word and a strobe written are a slot written
slots_set_at : (words strbs : List ℕ) (o : Option ℕ) (p : Payload)
    → slots_in (set_at words o p.«data») (set_at strbs o p.strb) ≡ set_at (slots_in words strbs) o p
slots_set_at words strbs None p = refl
slots_set_at words strbs (Some at) p = slots_set words strbs at p.«data» p.strb

-- the two together are the rule's answer, part by part
pub turn_answers : (p : Pointers) (slots : List Payload) (offers : Bool) (offer : Payload) (sink clear : Bool) (o : Option ℕ) (t : Turn)
    (valid : Bool) (payload : Payload) (v : Value) → p.place.depth ≤ length slots → Shows p clear o → Turns p offers offer sink clear t
    → valid ≡ is_some o → payload ≡ shown_from slots o → v ≡ trusted (fifo_with t.next (set_at slots t.joined offer))
    → record { refusal = none; ready = t.ready; valid = valid; payload = payload; next = v }
    ≡ cycle_of (queue_of (fifo_with p slots)) (when offers (offer ∷ [])) sink clear
turn_answers p slots offers offer sink clear o t valid payload v fits shows turns by_valid by_payload by_next =
    rw (turns.ready slots, by_valid ∙ shows.valid slots, by_payload ∙ shows.payload slots, by_next ∙ turns.next slots fits)
    (by_clear clear (queue_of (fifo_with p slots)))
  where
    by_clear : (c : Bool) (q : Queue)
        → record {
          refusal = none;
          ready = not c && ready q;
          valid = not c && is_any (shown q);
          payload = cond c zeros (shown_as (shown q));
          next = well (cond c (emptied q) (next q (when offers (offer ∷ [])) sink));
        } ≡ cycle_of q (when offers (offer ∷ [])) sink c
    by_clear true q = refl
    by_clear false q = refl

-- in lent memory
pub joins_memory : (t : Turn) (depth : ℕ) (words strbs : List ℕ) (offer : Payload) → t.next.place.depth ≡ depth
    → has_slots depth words strbs ≡ true
    → trusted_in t.next (set_at words t.joined offer.«data») (set_at strbs t.joined offer.strb)
    ≡ trusted (fifo_with t.next (set_at (slots_in words strbs) t.joined offer))
joins_memory t depth words strbs offer same has =
    trusted_memory t.next (set_at words t.joined offer.«data») (set_at strbs t.joined offer.strb)
    (slots_kept t.next.place.depth words strbs (set_at words t.joined offer.«data») (set_at strbs t.joined offer.strb)
    (ap (λ (n : ℕ). has_slots n words strbs) same ∙ has)
    (length_set_at words t.joined offer.«data») (length_set_at strbs t.joined offer.strb))
    ∙ ap (λ (slots : List Payload). trusted (fifo_with t.next slots)) (slots_set_at words strbs t.joined offer)
