-- The FIFOs nearest the outlet have been passed, as many as were yielded (`Passed`). Assumes nothing.
use mathlib.Core.Path.{◌≡◌}
use Prim.Native.Nat.{◌-◌, ◌≤◌}
use lib.ListN.{length, drop}
use Rattle.places.specs.Listing.{max_fifos}
use Rattle.chain.specs.Calls.{queues}
use Rattle.chain.specs.Promises.{value}
use Rattle.chain.proofs.Pass.{Passed}
use Rattle.chain.proofs.Chain.time_of.Given as goal

abbrev pub invariant-loop-ahead : goal.invariant-loop-ahead
invariant-loop-ahead l = record {
  pass : Passed (drop (l.self.count - length l.yielded) (queues (value l.self))) l.i (length l.yielded) l.left l.busy;
  inside : length l.yielded ≤ l.self.count;
  most : l.self.count ≤ max_fifos;
  wide : length l.self.fifos ≡ max_fifos;
}
