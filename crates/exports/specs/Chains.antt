-- The answers of a chain's calls in numbers. Assumes nothing.
use Rattle.std.specs.Prelude.{ℕ, List, ◌≡◌, Result}
use Rattle.std.specs.Result.{result_unwrap_or}
use Rattle.signals.specs.declared.Refusal.{Refusal}
use Rattle.signals.specs.declared.Stepped.{Stepped}
use Rattle.signals.specs.Refusals.{refusal_of}
use Rattle.signals.specs.Tables.{first_applying}
use Rattle.fifo.specs.declared.Place.{Place}
use Rattle.chain.specs.declared.Chain.{Chain}
use Rattle.chain.specs.Calls.{well, new_grounds, new_line}
use Rattle.chain.specs.Promises.{value}
use Rattle.exports.specs.declared.fifos.ChainNew.{ChainNew}
use Rattle.exports.specs.declared.fifos.ChainStep.{ChainStep}
use Rattle.exports.specs.declared.fifos.ChainRun.{ChainRun}
use Rattle.exports.specs.declared.fifos.ChainDeliveryTime.{ChainDeliveryTime}
use Rattle.exports.specs.Numbers.{or_zero}
use Rattle.exports.specs.Fifos.{shown}

-- a new chain is empty, at its places; refused, it is the shortest
pub record NewChain (places : List Place) (r : ChainNew) : Type 0 where
  pub refusal : r.refusal ≡ or_zero (first_applying (new_grounds places))
  pub gives : value r.chain ≡ well (new_line places)

-- a FIFO's step has its own in `Fifos`, of the struct that C is handed there
abbrev pub step_numbers : (given : Chain) → Result (Stepped Chain) Refusal → ChainStep
step_numbers given answer =
    let s : Stepped Chain = shown given answer in
    record {
      refusal = or_zero (refusal_of answer);
      ready = s.ready;
      valid = s.valid;
      payload = s.payload;
      next = s.next;
    }

-- a refused run leaves the chain as it was given
abbrev pub run_numbers : (given : Chain) → Result Chain Refusal → ChainRun
run_numbers given answer = record { refusal = or_zero (refusal_of answer); next = result_unwrap_or answer given }

abbrev pub time_numbers : Result ℕ Refusal → ChainDeliveryTime
time_numbers answer = record { refusal = or_zero (refusal_of answer); cycles = result_unwrap_or answer 0 }
