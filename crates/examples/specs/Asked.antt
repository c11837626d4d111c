-- Questions with the answers that they should get. Assumes nothing.
use Rattle.std.specs.Prelude.{ℕ}
use Rattle.std.proofs.Math.Option.{Option, none, some}

pub record Example (Question Answer : Type 0) : Type 0 where
  pub question : Question
  pub expected : Answer

module _ {Question Answer : Type 0} where
  infix 80 ◌gives◌
  abbrev pub ◌gives◌ : Question → Answer → Example Question Answer
  question gives expected = record { question = question; expected = expected }

-- an answer, unless there is a refusal: then its number
abbrev pub unless_refused : {Answer : Type 0} → (refused : ℕ → Answer) → (refusal : Option ℕ) → Answer → Answer
unless_refused refused none answer = answer
unless_refused refused (some n) answer = refused n
