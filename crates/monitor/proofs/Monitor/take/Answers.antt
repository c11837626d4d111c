-- `take` meets its contract: a broken record only counts the cycles (`stays`), and a clean one takes over what the loop sees.
-- Assumes nothing.
use mathlib.Core.Path.{sym, ◌∙◌}
use Prim.Native.Nat.{◌+◌, ◌≤◌}
use native.Mathlib.Omega.{arith}
use lib.ListN.{length}
use Rattle.stream_checker.proofs.Judged.{counted_inside}
use Rattle.monitor.specs.Bursts.{max_seen}
use Rattle.monitor.proofs.Following.{stays}
use Rattle.monitor.proofs.Legal.{Clean, counts_among}
use Rattle.monitor.proofs.Judged.{legal_clean, clean_after, broken_after}
use Rattle.monitor.proofs.Monitor.take.Goals.{After-judge_cycles-seen}
use Rattle.monitor.proofs.Monitor.take.Goals as goal

pub returns-then-self-eq-BROKEN : goal.returns-then-self-eq-BROKEN
returns-then-self-eq-BROKEN c =
    let a = c.args in sym (stays a.self.now a.control.now a.«data».now c.if-self-eq-BROKEN.true (length a.control.now))

-- the record is clean, and the loop has counted no more of anything than the burst's cycles, for which there is room
clean : (c : After-judge_cycles-seen) → Clean c.args.self.now
clean c = legal_clean c.args.self.now c.requires.is_legal c.if-self-eq-BROKEN.false

fits :
    (c : After-judge_cycles-seen) →
    let m = c.args.self.now in
    let seen = c.judge_cycles-seen.result in
    (m.cycles + seen.cycles ≤ max_seen) × (m.handshakes + seen.handshakes ≤ max_seen) × (m.clears + seen.clears ≤ max_seen)
fits c =
    let a = c.args in
    let s = c.judge_cycles-seen in
    let inside = counted_inside s.result _ a.control.now a.«data».now a.self.now.seq c.requires.same s.ensures in
    let among = counts_among a.self.now (clean c) in
    (omega (arith, c.requires.room), omega (arith, c.requires.room), omega (arith, c.requires.room))

pub overflow_cast-self-2 : goal.overflow_cast-self-2
overflow_cast-self-2 c = omega (arith, fits (goal.at.overflow_cast-self-2 c).After-judge_cycles-seen)

pub overflow_add-self-2 : goal.overflow_add-self-2
overflow_add-self-2 c = omega (arith, fits (goal.at.overflow_add-self-2 c).After-judge_cycles-seen)

pub overflow_cast-self-3 : goal.overflow_cast-self-3
overflow_cast-self-3 c = omega (arith, fits (goal.at.overflow_cast-self-3 c).After-judge_cycles-seen)

pub overflow_add-self-3 : goal.overflow_add-self-3
overflow_add-self-3 c = omega (arith, fits (goal.at.overflow_add-self-3 c).After-judge_cycles-seen)

pub overflow_cast-seen : goal.overflow_cast-seen
overflow_cast-seen c = omega (arith, fits (goal.at.overflow_cast-seen c).After-judge_cycles-seen)

pub overflow_add-before : goal.overflow_add-before
overflow_add-before c = omega (arith, fits (goal.at.overflow_add-before c).After-judge_cycles-seen)

pub returns-in-None : goal.returns-in-None
returns-in-None c =
    let s = c.judge_cycles-seen in
    let m = clean (goal.at.returns-in-None c).After-judge_cycles-seen in
    c.keep_last.ensures
    ∙ clean_after m s.result c.watch.ensures c.args.control.now c.args.«data».now c.requires.same s.ensures c.in-None.is

pub returns-in-Some : goal.returns-in-Some
returns-in-Some c =
    let s = c.judge_cycles-seen in
    let m = clean (goal.at.returns-in-Some c).After-judge_cycles-seen in
    c.keep_breach.ensures
    ∙ broken_after m s.result c.watch.ensures c.args.control.now c.args.«data».now c.requires.same s.ensures _ c.in-Some.is
