-- `judge_all` meets its contract: each turn is a stretch, which leads further on or to the sight of all. Assumes nothing.
use Rattle.stream_checker.proofs.Judged.{so_far_le}
use Rattle.stream_checker.proofs.Trace.judge_all.Goals as goal

pub judge_stretch-seen-requires-clause-counted : goal.judge_stretch-seen-requires-clause-counted
judge_stretch-seen-requires-clause-counted c = so_far_le c.loop-seen.invariant.2
