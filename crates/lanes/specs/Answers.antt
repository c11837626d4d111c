-- Request T-01: what a merge and a split answer: refused, every output is 0. Assumes nothing.
use Rattle.std.specs.Prelude.{ℕ, cond, Result}
use Rattle.std.specs.Result.{result_unwrap_or}
use Rattle.std.proofs.Math.Option.{Option}
use Rattle.signals.specs.Refusals.{refusal_of, accepts}
use Rattle.signals.specs.declared.Refusal.{Refusal}

-- The number of its refusal if it is refused, and its outputs.
pub record Answer (A : Type 0) : Type 0 where
  pub refusal : Option ℕ
  pub outputs : A

module _ {A : Type 0} where
  -- the outputs of a cycle that is not refused, or else zeros
  abbrev pub answer_by : (refusal : Option ℕ) → (zeros cycle : A) → Answer A
  answer_by refusal zeros cycle = record { refusal = refusal; outputs = cond (accepts refusal) cycle zeros }

  -- what a result answers
  abbrev pub answer_of : (zeros : A) → Result A Refusal → Answer A
  answer_of zeros r = record { refusal = refusal_of r; outputs = result_unwrap_or r zeros }
