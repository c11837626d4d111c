-- The numbers that stand for outcomes and verdicts, and what it means that an answer is given in numbers. Assumes nothing.
use Rattle.std.specs.Prelude.{ℕ, ◌≡◌}
use Rattle.std.proofs.Math.Option.{Option, none, some}
use Rattle.signals.specs.Numbers.{InThree, in_three}
use Rattle.signals.specs.Written.{Written, judged, refused}

-- the number of a refusal, 0 where there is none
abbrev pub or_zero : (refusal : Option ℕ) → ℕ
or_zero none = 0
or_zero (some n) = n

-- A verdict in four numbers: the refusal; 0 for none, 1 for clean, 2 for broken; and rule and cycle, 0 unless it is broken.
pub record InFour : Type 0 where
  pub refusal : ℕ
  pub verdict : ℕ
  pub rule : ℕ
  pub cycle : ℕ

abbrev pub in_four : Written → InFour
in_four (refused n) = record { refusal = n; verdict = 0; rule = 0; cycle = 0 }
in_four (judged found) =
    let three : InThree = in_three found in
    record { refusal = 0; verdict = three.verdict; rule = three.rule; cycle = three.cycle }

-- r gives an answer that is as promised, in numbers
pub record InNumbers {A B : Type 0} (Promised : A → Type 0) (numbers : A → B) (r : B) : Type 0 where
  pub answer : A
  pub promised : Promised answer
  pub same : r ≡ numbers answer
