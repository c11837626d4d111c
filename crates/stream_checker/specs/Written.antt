-- Document 01's name for each rule of the code, and its answer for each answer of the code. Assumes nothing.
use Rattle.std.specs.Prelude.{Result, Ok, Err}
use Rattle.signals.specs.Refusals.{number_of}
use Rattle.signals.specs.Written.{RuleName, number, seq, judgement_by, refused_with}
use Rattle.signals.specs.declared.Refusal.{Refusal}
use Rattle.stream_checker.specs.declared.Rule.{Rule}
use Rattle.stream_checker.specs.declared.Rule.TheVariants.{Held, Stable, Seq}
use Rattle.stream_checker.specs.declared.Checked.{Checked}
use Rattle.stream_checker.specs.Verdicts.{Answer}

abbrev pub rule_name : Rule → RuleName
rule_name Held = number 4
rule_name Stable = number 2
rule_name Seq = seq

-- its own: this checker counts clear cycles, that of memory traces tells whether a read is open
abbrev pub written : Result Checked Refusal → Answer
written (Ok checked) = record { judgement = judgement_by rule_name checked.breach checked.handshakes; clears = checked.clears }
written (Err why) = record { judgement = refused_with (number_of why); clears = 0 }
