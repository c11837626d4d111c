-- What `parse` promises of any text: it answers what the form reads, with the trace in two arrays. Assumes nothing.
use Rattle.std.specs.Prelude.{ℕ, ◌≤◌, List, ◌≡◌, length, take, Result, Ok, Err}
use Rattle.std.specs.Result.{IfOk, OnErr}
use Rattle.signals.specs.Refusals.{number_of}
use Rattle.signals.specs.declared.Refusal.{Refusal}
use Rattle.trace_text.specs.Form.{Reading, trace, refused, reading}
use Rattle.trace_text.specs.declared.Parsed.{Parsed}

-- the trace stands at the start of two arrays
abbrev pub parsed : Result Parsed Refusal → (controls words : List ℕ) → Reading
parsed (Ok p) controls words = trace (record { seq = p.seq; controls = take p.cycles controls; words = take p.cycles words })
parsed (Err why) controls words = refused (number_of why)

-- what `parse` answers: what the form reads, and no more cycles than the arrays hold; refused, it leaves them as they were
pub record Parses (text controls words : List ℕ) (r : Result Parsed Refusal) (exitControls exitWords : List ℕ) : Type 0 where
  pub reads : reading text ≡ parsed r exitControls exitWords
  pub within : IfOk r (λ p. (p.cycles ≤ length exitControls) × (p.cycles ≤ length exitWords))
  pub kept : OnErr r ((exitControls ≡ controls) × (exitWords ≡ words))
