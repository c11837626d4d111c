-- `Fifo::laid_in` meets its contract. The loop's invariant: the slots in the memory before `i` are the FIFO's, and those past its depth
-- are as they were. Assumes nothing.
use mathlib.Core.Path.{◌≡◌}
use lib.ListN.{take}
use Rattle.fifo.specs.Memory.{slots_in}
use Rattle.fifo.specs.Promises.{StaysPast}
use Rattle.fifo.proofs.Fifo.laid_in.Given as goal

abbrev pub invariant-loop-i : goal.invariant-loop-i
invariant-loop-i l = record {
  copied : take l.i (slots_in l.words l.strbs) ≡ take l.i l.slots;
  past : StaysPast l.fn.self.place.depth l.initial.words l.initial.strbs l.words l.strbs;
}
