-- What one cycle does to a FIFO's numbers, and to its slots by them, for the contracts of private functions. No promise of a public
-- call cites this file. Assumes nothing.
use Rattle.std.specs.Prelude.{ℕ, Bool, cond, not, ◌&&◌, List, [], ◌∷◌, ◌≡◌, ◌<◌, ◌≤◌, length, get_or, set, Option, Some, None, is_some, IfSome}
use Rattle.signals.specs.declared.Payload.{Payload}
use Rattle.signals.specs.Payloads.{zeros}
use Rattle.fifo.specs.declared.Pointers.{Pointers}
use Rattle.fifo.specs.declared.ring.Turn.{Turn}
use Rattle.fifo.specs.Queue.{Queue, well, when, rest, emptied, ready, shown, shown_as, is_any, next}
use Rattle.fifo.specs.Ring.{fifo_with, queue_of, trusted}

-- the payload in the slot that is shown; zeros where none is
abbrev pub shown_from : (slots : List Payload) → Option ℕ → Payload
shown_from slots None = zeros
shown_from slots (Some at) = get_or slots at zeros

-- a list with one entry written, where one is
abbrev pub set_at : {A : Type 0} → List A → Option ℕ → A → List A
set_at xs None x = xs
set_at xs (Some at) x = set xs at x

-- the queue from which the oldest has left where the sink is ready
abbrev pub popped : Queue → (sink : Bool) → Queue
popped q sink = record { place = q.place; held = cond sink (rest q.held) q.held }

-- the slot that is shown is within the depth, and whatever the slots hold its payload is the one that the rule shows
pub record Shows (p : Pointers) (clear : Bool) (o : Option ℕ) : Type 0 where
  pub within : IfSome o (λ at. at < p.place.depth)
  pub valid : (slots : List Payload) → is_some o ≡ (not clear && is_any (shown (queue_of (fifo_with p slots))))
  pub payload : (slots : List Payload) → shown_from slots o ≡ cond clear zeros (shown_as (shown (queue_of (fifo_with p slots))))

-- the slot that a payload joins is within the depth, and in any slots that are enough for the depth what is left is the rule's
pub record Turns (p : Pointers) (valid : Bool) (offer : Payload) (sink clear : Bool) (t : Turn) : Type 0 where
  pub within : IfSome t.joined (λ at. at < p.place.depth)
  pub same_place : t.next.place ≡ p.place
  pub ready : (slots : List Payload) → t.ready ≡ (not clear && ready (queue_of (fifo_with p slots)))
  pub next : (slots : List Payload) → p.place.depth ≤ length slots → trusted (fifo_with t.next (set_at slots t.joined offer))
      ≡ well (cond clear (emptied (queue_of (fifo_with p slots))) (next (queue_of (fifo_with p slots)) (when valid (offer ∷ [])) sink))
