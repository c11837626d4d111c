-- `judge_all` meets its contract. The invariant: nothing is found in the cycles that are seen, and the counts and the watch are those after
-- them. Each turn is a stretch, which leads further on or to the sight of all. Assumes nothing.
use Prim.Native.Nat.{◌≤◌, ◌-◌}
use Rattle.std.specs.Prelude.{◌≡◌, None}
use Rattle.stream_checker.specs.Step.{common_length, SoFar}
use Rattle.stream_checker.proofs.Trace.judge_all.Given as goal

abbrev pub invariant-loop-seen : goal.invariant-loop-seen
invariant-loop-seen l =
    (l.seen.cycles ≤ common_length l.self.control.now l.self.«data».now) × (l.seen.breach ≡ None)
    × SoFar l.fn.watch l.self.control.now l.self.«data».now l.self.seq l.seen.cycles l.seen.handshakes l.seen.clears l.seen.watch

abbrev pub decreases-loop-seen : goal.decreases-loop-seen
decreases-loop-seen l = common_length l.self.control.now l.self.«data».now - l.seen.cycles
