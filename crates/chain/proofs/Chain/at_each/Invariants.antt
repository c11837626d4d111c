-- The FIFOs before `i` are empty and at their places, of which none is refused. Assumes nothing.
use mathlib.Core.Bool.{false, not}
use mathlib.Core.List.{map}
use mathlib.Core.Path.{◌≡◌}
use lib.ListN.{length, take}
use Rattle.signals.specs.Refusals.{any_of}
use Rattle.fifo.specs.Queue.{well, empty, legal_place}
use Rattle.fifo.specs.Promises as fifo
use Rattle.places.specs.Listing.{max_fifos}
use Rattle.chain.proofs.Chain.at_each.Given as goal

abbrev pub invariant-loop-i : goal.invariant-loop-i
invariant-loop-i l = record {
  made : map fifo.value (take l.i l.fifos) ≡ map well (map empty (take l.i l.places));
  legal : any_of (λ place. not (legal_place place)) (take l.i l.places) ≡ false;
  wide : length l.fifos ≡ max_fifos;
}
