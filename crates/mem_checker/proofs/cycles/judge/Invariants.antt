-- `judge` meets its contract. The invariant: the watch follows the trace over the cycles passed (`Follows`). Assumes nothing.
use lib.ListN.{length}
use Rattle.signals.specs.Memory.{access_at}
use Rattle.mem_checker.proofs.Watching.{Follows}
use Rattle.mem_checker.proofs.cycles.judge.Given as goal

abbrev pub invariant-loop-cycle : goal.invariant-loop-cycle
invariant-loop-cycle g l = Follows g.P.Protocol.named (access_at l.control l.add) (length l.yielded) l.watch
