-- `judge_stretch` meets its contract. The invariant: from wherever nothing was found up to the stretch's first cycle, nothing is found
-- below the next, and the counts and the watch are those after it.
use Prim.Native.Nat.{◌≤◌}
use Rattle.stream_checker.specs.declared.watch.Watch.{Watch}
use Rattle.stream_checker.specs.Step.{SoFar}
use Rattle.stream_checker.proofs.Trace.judge_stretch.Given as goal

abbrev pub invariant-loop-cycles : goal.invariant-loop-cycles
invariant-loop-cycles l =
    (l.handshakes ≤ l.cycles)
    × ((w : Watch) → SoFar w l.self.control.now l.self.«data».now l.self.seq l.seen.cycles l.seen.handshakes l.seen.clears l.seen.watch →
    SoFar w l.self.control.now l.self.«data».now l.self.seq l.cycles l.handshakes l.seen.clears l.watch)
