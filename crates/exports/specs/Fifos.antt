-- The answers of a FIFO's calls in numbers. Assumes nothing.
use Rattle.std.specs.Prelude.{false, ◌≡◌, Result}
use Rattle.std.specs.Result.{result_unwrap_or}
use Rattle.signals.specs.declared.Refusal.{Refusal}
use Rattle.signals.specs.declared.Stepped.{Stepped}
use Rattle.signals.specs.Payloads.{zeros}
use Rattle.signals.specs.Refusals.{refusal_of}
use Rattle.signals.specs.Tables.{first_applying}
use Rattle.fifo.specs.declared.Fifo.{Fifo}
use Rattle.fifo.specs.declared.Place.{Place}
use Rattle.fifo.specs.Queue.{well, new_grounds, new_queue}
use Rattle.fifo.specs.Promises.{value}
use Rattle.exports.specs.declared.fifos.FifoNew.{FifoNew}
use Rattle.exports.specs.declared.fifos.FifoStep.{FifoStep}
use Rattle.exports.specs.Numbers.{or_zero}

-- a new FIFO is empty, at its place; refused, it is the smallest
pub record NewFifo (place : Place) (r : FifoNew) : Type 0 where
  pub refusal : r.refusal ≡ or_zero (first_applying (new_grounds place))
  pub gives : value r.fifo ≡ well (new_queue place)

-- what a step shows, and what it leaves; a refused one shows nothing, and leaves what it was given
abbrev pub shown : {S : Type 0} → (given : S) → Result (Stepped S) Refusal → Stepped S
shown given answer = result_unwrap_or answer (record { ready = false; valid = false; payload = zeros; next = given })

-- A chain's step has its own in `Chains`: what C is handed of the two steps are two types.
abbrev pub step_numbers : (given : Fifo) → Result (Stepped Fifo) Refusal → FifoStep
step_numbers given answer =
    let s : Stepped Fifo = shown given answer in
    record {
      refusal = or_zero (refusal_of answer);
      ready = s.ready;
      valid = s.valid;
      payload = s.payload;
      next = s.next;
    }
