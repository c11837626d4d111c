-- What a FIFO that has its form holds: as many as it says, at most its capacity, at a legal place. Assumes nothing.
use mathlib.Core.Bool.{true}
use mathlib.Core.Path.{◌≡◌, ap, subst}
use Prim.Native.Nat.{◌≤◌}
use lib.ListN.{length}
use Rattle.fifo.specs.declared.Fifo.{Fifo}
use Rattle.fifo.specs.Queue.{Queue, Value, well, queue_in, capacity, legal_place}
use Rattle.fifo.specs.Ring.{value, trusted}
use Rattle.fifo.proofs.Form.{form_of, trusted_well, count_held}
use Rattle.fifo.proofs.Strobes.{trusted_of_value}

-- what is held by the numbers is what is held
pub held_of_value : (f : Fifo) (q : Queue) → value f ≡ well q → length (queue_in (trusted f)).held ≡ length q.held
held_of_value f q e = ap (λ (v : Value). length (queue_in v).held) (trusted_of_value f q e).0

pub record Held (q : Queue) : Type 0 where
  pub place : legal_place q.place ≡ true
  pub within : length q.held ≤ capacity q.place

pub held_within : (f : Fifo) (q : Queue) → value f ≡ well q → Held q
held_within f q e =
    let t = trusted_well f q (trusted_of_value f q e).0 in
    let form = form_of f t.0 in
    subst Held t.1 (record { place = form.place; within = rw (count_held f) form.count })
