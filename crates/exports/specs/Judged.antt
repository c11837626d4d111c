-- What is found in a trace, in numbers. No public promise cites it. Assumes nothing.
use Rattle.std.specs.Prelude.{ℕ, ◌≡◌, Option, Some, None, Result, Ok, Err}
use Rattle.signals.specs.Refusals.{number_of}
use Rattle.signals.specs.declared.Refusal.{Refusal}
use Rattle.signals.specs.declared.Breach.{Breach}
use Rattle.exports.specs.declared.checkers.Judged.{Judged}

-- clean, or broken with the rule's number and the cycle; or refused
abbrev pub Found : {R : Type 0} → (numbered : R → ℕ → Type 0) → Result (Option (Breach R)) Refusal → Judged → Type 0
Found numbered (Ok None) judged = judged ≡ record { refusal = 0; verdict = 1; rule = 0; cycle = 0 }
Found numbered (Ok (Some breach)) judged =
    (judged.refusal ≡ 0) × (judged.verdict ≡ 2) × (numbered breach.rule judged.rule) × (judged.cycle ≡ breach.cycle)
Found numbered (Err why) judged = judged ≡ record { refusal = number_of why; verdict = 0; rule = 0; cycle = 0 }
