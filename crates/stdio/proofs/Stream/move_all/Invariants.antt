-- The loop of `move_all`: no more is done than the whole.
use Rattle.std.proofs.Common.{◌≤◌}
use Rattle.stdio.proofs.Stream.move_all.Given as goal

abbrev pub invariant-loop : goal.invariant-loop
invariant-loop g l = goal.F-IsAlwaysCallable g l.call × (l.done ≤ l.total)
