-- What an answer that is known tells of the refusal that it was promised to give. Assumes nothing.
use Prim.Native.Nat.{ℕ}
use mathlib.Core.Option.{Option}
use mathlib.Core.Path.{◌≡◌, sym, ◌∙◌, ap}
use Rattle.std.specs.Prelude.{Result}
use Rattle.signals.specs.Refusals.{refusal_of}
use Rattle.signals.specs.declared.Refusal.{Refusal}

-- the refusal that an answer tells, when the answer is known
pub told :
    {A : Type 0} (refusal : Option ℕ) (answer known : Result A Refusal) → refusal_of answer ≡ refusal → answer ≡ known →
    refusal ≡ refusal_of known
told refusal answer known e f = sym e ∙ ap refusal_of f
