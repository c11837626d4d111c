-- The parts before `j` hold what the FIFOs there hold. Assumes nothing.
use mathlib.Core.List.{map}
use mathlib.Core.Path.{◌≡◌}
use Prim.Native.Nat.{◌≤◌}
use lib.ListN.{length, take}
use Rattle.fifo.specs.Promises as fifo
use Rattle.places.specs.Listing.{max_fifos}
use Rattle.chain.specs.Cycling.{part_value}
use Rattle.chain.proofs.Chain.lay_out.Given as goal

abbrev pub invariant-loop-j : goal.invariant-loop-j
invariant-loop-j l = record {
  same : map part_value (take l.j l.parts) ≡ map fifo.value (take l.j l.self.fifos);
  most : l.self.count ≤ max_fifos;
  all : length l.parts ≡ max_fifos;
  wide : length l.self.fifos ≡ max_fifos;
}
