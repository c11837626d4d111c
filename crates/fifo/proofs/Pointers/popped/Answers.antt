-- `Pointers::popped` meets its contract: the next place is within the ring and no more is held, the oldest leaves by `pop_leaves_rest`, and
-- where none is held nothing can leave. Assumes nothing.
use Prim.Native.Nat.{◌-◌, ◌≤◌, ◌<◌}
use native.Mathlib.Omega.{arith}
use borrow.Author.Tests.{ltb-true, lt-ltb, le-leb}
use lib.Dec.{ltb}
use mathlib.Core.List.{[]}
use Rattle.signals.proofs.Bools.{both}
use Rattle.fifo.specs.Queue.{capacity}
use Rattle.fifo.specs.Ring.{fifo_with}
use Rattle.fifo.proofs.Form.{form_of, pop_leaves_rest, no_pop}
use Rattle.fifo.proofs.Places.{wrapped_below}
use Rattle.fifo.proofs.Pointers.popped.Goals as goal

-- no place and no count of the answer is named, so that the goal of the value alone says which place it is
pub returns-then-sink-self-clause-in_range : goal.returns-then-sink-self-clause-in_range
returns-then-sink-self-clause-in_range c =
    let p = c.args.self in
    let form = form_of (fifo_with p []) c.requires in
    let below : c.wrap.result < p.place.depth = grind (arith, wrapped_below, c.wrap.ensures, form.oldest) in
    let most : p.count - 1 ≤ capacity p.place = omega (arith, form.count) in
    rw (form.place, lt-ltb _ _ below, le-leb _ _ most)

pub returns-then-sink-self-clause-value : goal.returns-then-sink-self-clause-value
returns-then-sink-self-clause-value c slots =
    let f = fifo_with c.args.self slots in
    let leaves = both c.args.sink (ltb 0 f.count) c.if-sink-self.true in
    rw (leaves.0, c.wrap.ensures) (pop_leaves_rest f c.requires (ltb-true 0 f.count leaves.1))

pub returns-clause-value : goal.returns-clause-value
returns-clause-value c slots = no_pop (fifo_with c.args.self slots) c.args.sink c.requires c.if-sink-self.false
