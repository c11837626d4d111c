-- After `i` cycles the line is where they lead, and the outputs hold what they wrote, then what stood there (`Tracing`). Assumes nothing.
use mathlib.Core.List.{map}
use mathlib.Core.Path.{◌≡◌}
use Prim.Native.Nat.{◌≤◌}
use lib.ListN.{length, take}
use Rattle.places.specs.Listing.{max_fifos}
use Rattle.chain.specs.Calls.{queues, recorded}
use Rattle.chain.specs.Promises.{value, line_of}
use Rattle.chain.specs.Cycling.{part_value}
use Rattle.chain.proofs.Tracing.{Tracing}
use Rattle.chain.proofs.Chain.traced.Given as goal

abbrev pub invariant-loop-i : goal.invariant-loop-i
invariant-loop-i l = record {
  tracing : Tracing (queues (value l.self)) (recorded l.trace.control.now l.trace.«data».now l.trace.sink.now) l.initial.out_control l.initial.out_data (line_of (map part_value (take l.self.count l.parts))) l.i l.out_control l.out_data;
  most : l.self.count ≤ max_fifos;
  all : length l.parts ≡ max_fifos;
}
