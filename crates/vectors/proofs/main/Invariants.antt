-- The loop of `main`: no more vectors differ than were run, so that no sum wraps.
use Rattle.std.proofs.Common.{◌≤◌}
use Rattle.vectors.proofs.main.Given as goal

abbrev pub invariant-loop-i : goal.invariant-loop-i
invariant-loop-i l = l.differing ≤ l.i
