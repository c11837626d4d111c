-- Document 01, "Memory rules" and "Refusal numbers": the paper's rule and number for each case of the code's answer. Assumes nothing.
use Rattle.std.specs.Prelude.{false, Result, Ok, Err}
use Rattle.signals.specs.Refusals.{number_of}
use Rattle.signals.specs.Written.{RuleName, number, align, judgement_by, refused_with}
use Rattle.signals.specs.declared.Refusal.{Refusal}
use Rattle.mem_checker.specs.declared.Rule.{Rule}
use Rattle.mem_checker.specs.declared.Rule.TheVariants.{Response, Direction, Align}
use Rattle.mem_checker.specs.declared.Checked.{Checked}
use Rattle.mem_checker.specs.Verdicts.{Answer}

-- the rule's number or name
abbrev pub rule_name : Rule → RuleName
rule_name Response = number 2
rule_name Direction = number 4
rule_name Align = align

-- the verdict, and beside it the count and whether the trace is open; refused with a number, the count is 0 and nothing is open. Its own:
-- this checker tells whether a read is open, that of streams counts clear cycles.
abbrev pub written : Result Checked Refusal → Answer
written (Ok checked) = record { judgement = judgement_by rule_name checked.breach checked.handshakes; «open» = checked.«open» }
written (Err why) = record { judgement = refused_with (number_of why); «open» = false }
