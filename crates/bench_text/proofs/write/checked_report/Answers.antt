-- `bench_text::write::checked_report` meets its contract: a breach's lines are the definition's. Assumes nothing.
use native.Mathlib.Omega.{arith}
use mathlib.Core.Path.{◌∙◌}
use Rattle.std.proofs.lemmas.Grind.{common_steps}
use Rattle.bench_text.proofs.BreachLines.{breach_lines}
use Rattle.bench_text.proofs.write.checked_report.Goals as goal

pub returns-in-Some : goal.returns-in-Some
returns-in-Some c =
    c.seven_lines-in-Some.ensures
    ∙ breach_lines c.args.cycles c.args.checked c.in-Some.breach _ _ c.in-Some.is c.rule_bytes.ensures (grind (arith, common_steps))
