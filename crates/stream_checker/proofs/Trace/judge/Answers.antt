-- `judge` meets its contract: what `judge_cycles` sees from the start on is the answer to the trace. Assumes nothing.
use mathlib.Core.Path.{◌≡◌, ◌∙◌, ap}
use Prim.Native.Nat.{ℕ, ◌≤◌}
use borrow.Author.Rules.{rules}
use native.Mathlib.Omega.{arith}
use Rattle.std.specs.Prelude.{Option, Some, None, MatchOption, IsSomeAnd}
use Rattle.signals.specs.Judging.{Finding}
use Rattle.signals.specs.Refusals.{max_cycles}
use Rattle.signals.specs.Written.{RuleName, finding_by}
use Rattle.signals.specs.declared.Breach.{Breach}
use Rattle.stream_checker.specs.declared.Rule.{Rule}
use Rattle.stream_checker.specs.Step.{finding_of}
use Rattle.stream_checker.specs.Written.{rule_name}
use Rattle.stream_checker.proofs.Judged.{answer_with, counted_inside, sees_answer}
use Rattle.stream_checker.proofs.Trace.judge.Goals.{After-judge_cycles-seen}
use Rattle.stream_checker.proofs.Trace.judge.Goals as goal

-- the loop has counted no more of anything than there are cycles
fits :
    (c : After-judge_cycles-seen) →
    let seen = c.judge_cycles-seen.result in (seen.cycles ≤ max_cycles) × (seen.handshakes ≤ max_cycles) × (seen.clears ≤ max_cycles)
fits c =
    let a = c.args.self in
    let inside = counted_inside c.judge_cycles-seen.result _ a.control.now a.«data».now _ c.requires.same c.judge_cycles-seen.ensures in
    (omega (arith, c.requires.short), omega (arith, c.requires.short), omega (arith, c.requires.short))

pub overflow_cast-cycle : goal.overflow_cast-cycle
overflow_cast-cycle c = omega (arith, fits (goal.at.overflow_cast-cycle c).After-judge_cycles-seen)

pub overflow_cast-result : goal.overflow_cast-result
overflow_cast-result c = omega (arith, fits (goal.at.overflow_cast-result c).After-judge_cycles-seen)

pub overflow_cast-result-2 : goal.overflow_cast-result-2
overflow_cast-result-2 c = omega (arith, fits (goal.at.overflow_cast-result-2 c).After-judge_cycles-seen)

-- a breach with its cycle is what is found there
found_there :
    (breach : Option Rule) (cycle : ℕ) (placed : Option (Breach Rule)) →
    MatchOption breach (placed ≡ None) (λ rule. IsSomeAnd placed (λ b. b ≡ record { rule = rule; cycle = cycle })) →
    finding_by rule_name placed ≡ finding_of breach cycle
found_there None cycle placed h = rw h
found_there (Some rule) cycle None h = absurd h
found_there (Some rule) cycle (Some b) h = rw h

pub returns : goal.returns
returns c =
    let a = c.args in
    let seen = c.judge_cycles-seen in
    let placed : MatchOption seen.result.breach (c.map.result ≡ None)
    (λ rule. IsSomeAnd c.map.result (λ (b : Breach Rule). b ≡ record { rule = rule; cycle = seen.result.cycles })) = search rules in
    ap (λ (f : Finding RuleName). answer_with f seen.result.handshakes seen.result.clears)
    (found_there seen.result.breach seen.result.cycles c.map.result placed)
    ∙ sees_answer seen.result _ a.self.control.now a.self.«data».now a.self.seq c.requires.same seen.ensures c.start.ensures
