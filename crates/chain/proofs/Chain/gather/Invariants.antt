-- The FIFOs before `j` hold what the parts there hold. Assumes nothing.
use mathlib.Core.List.{map}
use mathlib.Core.Path.{◌≡◌}
use lib.ListN.{length, take}
use Rattle.fifo.specs.Promises as fifo
use Rattle.places.specs.Listing.{max_fifos}
use Rattle.chain.specs.Cycling.{part_value}
use Rattle.chain.proofs.Chain.gather.Given as goal

abbrev pub invariant-loop-j : goal.invariant-loop-j
invariant-loop-j l = record {
  same : map fifo.value (take l.j l.self.fifos) ≡ map part_value (take l.j l.parts);
  count : l.self.count ≡ l.initial.self.count;
  all : length l.self.fifos ≡ max_fifos;
}
