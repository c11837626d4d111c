-- `Fifo::is_well` meets its contract: with the numbers in range, the strobes that are left to look at decide it. Assumes nothing.
use Prim.Native.Nat.{◌-◌, ◌<◌}
use mathlib.Core.Path.{◌≡◌}
use Rattle.fifo.specs.Queue.{legal_strbs}
use Rattle.fifo.specs.Ring.{ring, queue_of}
use Rattle.fifo.proofs.Fifo.is_well.Given as goal

abbrev pub invariant-loop-i : goal.invariant-loop-i
invariant-loop-i l =
    let f = l.self in
    (legal_strbs (queue_of f).held ≡ legal_strbs (ring f.slots f.place.depth l.at (f.count - l._i))) × (l.at < f.place.depth)
