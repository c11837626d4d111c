-- What `Chain::new`, `Chain::at`, `Chain::step`, `Chain::run` and `Chain::delivery_time` promise. FIFOs past the count of a chain that
-- is handed back are free. Assumes nothing.
use Rattle.std.specs.Prelude.{ℕ, false, cond, List, [], ◌∷◌, map, ◌≡◌, take, Result, Ok, Err, IfOk}
use Rattle.std.proofs.Math.Option.{none, some}
use Rattle.signals.specs.declared.Refusal.{Refusal}
use Rattle.signals.specs.declared.Stepped.{Stepped}
use Rattle.signals.specs.Payloads.{zeros}
use Rattle.signals.specs.Refusals.{number_of, refusal_of, accepts}
use Rattle.signals.specs.Tables.{first_applying}
use Rattle.fifo.specs.declared.Place.{Place}
use Rattle.fifo.specs.Queue as queue
use Rattle.fifo.specs.Queue.{empty}
use Rattle.fifo.specs.Promises as fifo
use Rattle.places.specs.Listing.{legal_count}
use Rattle.chain.specs.declared.Chain.{Chain}
use Rattle.chain.specs.Cycles.{Cycle}
use Rattle.chain.specs.Calls.{Value, ill, well, is_well, new_grounds, Call, step, run, Stepping, Answer, grounds, answer, back}
use Rattle.chain.specs.Timing.{Timing, timing}

-- the values of FIFOs in a row, if all have their form
abbrev pub before : queue.Queue → Value → Value
before q ill = ill
before q (well qs) = well (q ∷ qs)

abbrev pub line_of : List queue.Value → Value
line_of [] = well []
line_of (queue.ill ∷ vs) = ill
line_of (queue.well q ∷ vs) = before q (line_of vs)

-- a chain's value: that of its used FIFOs, in order
unfoldable pub value : Chain → Value
value chain = cond (legal_count chain.count) (line_of (map fifo.value (take chain.count chain.fifos))) ill

-- a new chain is empty, at the given places, unless it is refused
pub record Made (places : List Place) (r : Result Chain Refusal) : Type 0 where
  pub refusal : refusal_of r ≡ first_applying (new_grounds places)
  pub gives : IfOk r (λ new. value new ≡ well (map empty places))

-- A call that was made, with what it answered and the chain that it gave back.
pub record Done : Type 0 where
  pub call : Call
  pub answered : Answer call
  pub back : Chain

-- What a call promises: its answer and the value given back are the rules', and a refused chain comes back exactly as given.
pub record Promised (given : Chain) (done : Done) : Type 0 where
  pub answers : done.answered ≡ answer (value given) done.call
  pub gives : value done.back ≡ back (value given) done.call
  pub kept : accepts (first_applying (grounds (is_well (value given)) done.call)) ≡ false → done.back ≡ given

-- What a step answers and gives back; refused, it shows nothing, and leaves what was given.
abbrev pub stepping : Result (Stepped Chain) Refusal → Stepping
stepping (Ok r) = record { refusal = none; ready = r.ready; valid = r.valid; payload = r.payload }
stepping (Err why) = record { refusal = some (number_of why); ready = false; valid = false; payload = zeros }

abbrev pub stepped_back : (given : Chain) → Result (Stepped Chain) Refusal → Chain
stepped_back given (Ok r) = r.next
stepped_back given (Err why) = given

-- what a run gives back
abbrev pub run_back : (given : Chain) → Result Chain Refusal → Chain
run_back given (Ok next) = next
run_back given (Err why) = given

-- a step of the code, and a run with its outputs at entry and at exit
abbrev pub step_done : (given : Chain) → Cycle → Result (Stepped Chain) Refusal → Done
step_done given c r =
    record { call = step c.valid c.payload c.sink c.clear; answered = stepping r; back = stepped_back given r }

abbrev pub run_done : (given : Chain) → (controls words sinks : List ℕ) → (out_controls out_words : List ℕ) → Result Chain Refusal
    → (exitControls exitWords : List ℕ) → Done
run_done given controls words sinks out_controls out_words r exitControls exitWords =
    record {
      call = run controls words sinks out_controls out_words;
      answered = record { refusal = refusal_of r; out_controls = exitControls; out_words = exitWords };
      back = run_back given r;
    }

-- What the delivery time's call promises: its answer is the rules'.
abbrev pub timed : Result ℕ Refusal → Timing
timed (Ok cycles) = record { refusal = none; cycles = cycles }
timed (Err why) = record { refusal = some (number_of why); cycles = 0 }

abbrev pub Times : Chain → (i : ℕ) → Result ℕ Refusal → Type 0
Times given i r = timed r ≡ timing (value given) i
