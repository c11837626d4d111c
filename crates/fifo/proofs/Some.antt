-- Every queue that has its form is the value of some FIFO: its payloads in the first slots, the oldest in slot 0.
-- From slot 0 on the ring does not wrap before its end, so that it reads the slots in order. Assumes nothing.
use Prim.Native.Nat.{ℕ, zero, suc, ◌+◌, ◌-◌, ◌≤◌}
use native.Mathlib.Numerals.{add-one}
use native.Mathlib.Omega.{arith}
use mathlib.Core.Bool.{true}
use mathlib.Core.List.{List, ◌∷◌, ◌++◌}
use mathlib.Core.Path.{◌≡◌, refl, ap, ◌∙◌}
use lib.ListN.{length, drop, take, get_or, replicate, length-append, length-replicate}
use lib.Seq.{drop-cons, take_at}
use Rattle.signals.specs.declared.Payload.{Payload}
use Rattle.signals.specs.Payloads.{zeros}
use Rattle.fifo.specs.declared.Fifo.{Fifo}
use Rattle.fifo.specs.Queue.{Queue, well, capacity, max_depth, legal_place, legal_strbs}
use Rattle.fifo.specs.Ring.{ring, value}
use Rattle.fifo.proofs.Depths.{depth_least, depth_most, capacity_most}
use Rattle.fifo.proofs.Places.{wrapped_inside}
use Rattle.fifo.proofs.Form.{trusted_form}
use Rattle.fifo.proofs.Strobes.{value_of_trusted}

-- a ring that does not wrap reads its slots in order
unwrapped : (slots : List Payload) (depth at n : ℕ) → at + n ≤ depth → depth ≤ length slots → ring slots depth at n ≡ take n (drop at slots)
unfolding ring
unwrapped slots depth at zero h i = refl
unwrapped slots depth at (suc zero) h i = rw (drop-cons slots at zeros (omega arith))
unwrapped slots depth at (suc (suc n)) h i =
    rw (wrapped_inside depth at 1 (omega arith), drop-cons slots at zeros (omega arith))
    (ap {B = List Payload} (λ l. get_or slots at zeros ∷ l) (unwrapped slots depth (at + 1) (suc n) (omega arith) i ∙ rw (add-one at)))

-- the slots past the held ones
abbrev padding : Queue → List Payload
padding q = replicate (max_depth - length q.held) zeros

pub fifo_of : Queue → Fifo
fifo_of q = record { place = q.place; count = length q.held; oldest = 0; slots = q.held ++ padding q }

pub some_fifo : (q : Queue) → legal_place q.place ≡ true → length q.held ≤ capacity q.place → legal_strbs q.held ≡ true → value (fifo_of q) ≡ well q
unfolding fifo_of
some_fifo q legal fits strobes =
    value_of_trusted (fifo_of q) q
    (trusted_form (fifo_of q) (record { place = legal; oldest = omega (arith, depth_least q.place legal); count = fits })
    ∙ ap (λ (l : List Payload). well (record { place = q.place; held = l })) in_order)
    strobes
  where
    in_order : ring (q.held ++ padding q) q.place.depth 0 (length q.held) ≡ q.held
    in_order =
        unwrapped (q.held ++ padding q) q.place.depth 0 (length q.held) (omega (arith, capacity_most q.place))
        (omega (arith, depth_most q.place legal, length-append q.held (padding q), length-replicate (max_depth - length q.held) zeros))
        ∙ take_at q.held (padding q) (length q.held) refl
