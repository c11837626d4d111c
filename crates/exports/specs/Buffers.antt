-- The answers of the calls that fill a lent buffer, in numbers; and a part of a trace, copied. Assumes nothing.
use Rattle.std.specs.Prelude.{ℕ, false, cond, List, ◌∷◌, ◌++◌, ◌≡◌, ltb, length, drop, Result}
use Rattle.std.specs.Result.{result_unwrap_or}
use Rattle.signals.specs.Tables.{Row, ◌⇐◌, first_applying}
use Rattle.signals.specs.Refusals.{refusal_of, accepts}
use Rattle.signals.specs.declared.Refusal.{Refusal}
use Rattle.mux.specs.Mux.{Trace, grounds, muxed}
use Rattle.addressgen.specs.declared.Ran.{Ran}
use Rattle.addressgen.specs.declared.State.{State}
use Rattle.exports.specs.declared.buffers.AddressRun.{AddressRun}
use Rattle.exports.specs.declared.buffers.Filled.{Filled}
use Rattle.exports.specs.Numbers.{or_zero}

-- how many entries were written; refused, none
abbrev pub filled_numbers : Result ℕ Refusal → Filled
filled_numbers answer = record { refusal = or_zero (refusal_of answer); count = result_unwrap_or answer 0 }

-- a refused run makes no iteration, leaves the state as it was given, and is not done
abbrev pub refused_run : (given : State) → Ran
refused_run given = record { count = 0; state = given; done = false }

abbrev pub run_numbers : (given : State) → Result Ran Refusal → AddressRun
run_numbers given answer =
    let ran : Ran = result_unwrap_or answer (refused_run given) in
    record { refusal = or_zero (refusal_of answer); count = ran.count; state = ran.state; done = ran.done }

-- the grounds for refusing a part that is to be copied, in the order in which they are tried: fewer than `count` bytes of room, then the
-- mux's own
abbrev pub mux_grounds : Trace → Trace → (select first count room : ℕ) → List (Row ℕ)
mux_grounds t0 t1 select first count room = 7 ⇐ ltb room count ∷ grounds t0 t1 select first count

-- a part of a trace is handed on by its length and a copy of its bytes at the buffer's start; refused, nothing is written
pub record HandedOn (t0 t1 : Trace) (select first count : ℕ) (before after : List ℕ) (r : Filled) : Type 0 where
  pub refusal : r.refusal ≡ or_zero (first_applying (mux_grounds t0 t1 select first count (length before)))
  pub counted : r.count ≡ cond (accepts (first_applying (mux_grounds t0 t1 select first count (length before)))) count 0
  pub written :
      after ≡
      cond (accepts (first_applying (mux_grounds t0 t1 select first count (length before))))
      ((muxed t0 t1 select first count).bytes ++ drop count before)
      before
