-- The numbers that stand for what is found and for its rule, where a call answers no enum. Assumes nothing.
use Rattle.std.specs.Prelude.{ℕ}
use Rattle.signals.specs.Judging.{Finding, clean, broken}
use Rattle.signals.specs.Written.{RuleName, number, seq, align}

-- the two rules that have only a name lie far above every number of document 01
abbrev pub rule_number : RuleName → ℕ
rule_number (number n) = n
rule_number seq = 100
rule_number align = 101

-- What is found, in three numbers: 1 for clean, 2 for broken; and rule and cycle, 0 unless it is broken.
pub record InThree : Type 0 where
  pub verdict : ℕ
  pub rule : ℕ
  pub cycle : ℕ

abbrev pub in_three : Finding RuleName → InThree
in_three clean = record { verdict = 1; rule = 0; cycle = 0 }
in_three (broken rule c) = record { verdict = 2; rule = rule_number rule; cycle = c }
