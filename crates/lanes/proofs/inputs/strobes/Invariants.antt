-- The strobes of the inputs passed, side by side, which stay below the next weight. Assumes nothing.
use Rattle.std.proofs.Common.{◌≡◌}
use Rattle.lanes.specs.Merge.{payload_at}
use Rattle.lanes.specs.Wide.{strobes_below}
use Rattle.lanes.proofs.inputs.strobes.Given as goal

abbrev pub invariant-loop-i : goal.invariant-loop-i
invariant-loop-i l = l.strobes ≡ strobes_below (payload_at l.used) l.i
