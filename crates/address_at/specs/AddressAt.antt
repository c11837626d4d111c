-- Request T-14: what `address_at` answers. Assumes nothing.
use Rattle.std.specs.Prelude.{ℕ, cond, List, [], ◌∷◌, Result, leb}
use Rattle.std.specs.Result.{result_unwrap_or}
use Rattle.std.proofs.Math.Option.{Option}
use Rattle.signals.specs.Tables.{Row, ◌⇐◌, first_applying}
use Rattle.signals.specs.Refusals.{refusal_of, accepts}
use Rattle.signals.specs.declared.Refusal.{Refusal}
use Rattle.addressgen.specs.declared.Settings.{Settings}
use Rattle.addressgen.specs.Overwriting.{overwrites_itself}
use Rattle.addressgen.specs.Run.{bad_mask}

-- refusals 10, 11 and 8 in this order; 8: i is not below total
abbrev pub grounds : Settings → ℕ → List (Row ℕ)
grounds s i = 10 ⇐ bad_mask s ∷ 11 ⇐ overwrites_itself s ∷ 8 ⇐ leb s.total i ∷ []

-- The refusal, if there is one, in document 01's numbers, and the address.
pub record Answer : Type 0 where
  pub refusal : Option ℕ
  pub address : ℕ

-- the code's answer in these numbers; refused, the address is 0
abbrev pub answer_of : Result ℕ Refusal → Answer
answer_of answer = record { refusal = refusal_of answer; address = result_unwrap_or answer 0 }

-- what is answered for iteration i by an engine, which gives the address by the settings and the number; refused, the address is 0
abbrev pub answer_by : (engine : Settings → ℕ → ℕ) → Settings → ℕ → Answer
answer_by engine s i =
    let refusal : Option ℕ = first_applying (grounds s i) in
    record { refusal = refusal; address = cond (accepts refusal) (engine s i) 0 }
