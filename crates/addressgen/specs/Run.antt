-- Document 01, "Address generator": what a run for up to n addresses answers, and what it leaves in the lent buffer.
-- Assumes nothing.
use Rattle.std.specs.Prelude.{◌≡◌, ℕ, ◌+◌, ◌-◌, min, Bool, false, ◌&&◌, ◌||◌, ltb, List, [], ◌∷◌, ◌++◌, length, drop, Result, Ok, Err, ◌==◌, nat_lt}
use Rattle.std.proofs.Math.Option.{Option, none, some}
use Rattle.signals.specs.Tables.{Row, ◌⇐◌, first_applying}
use Rattle.signals.specs.Refusals.{number_of}
use Rattle.signals.specs.declared.Refusal.{Refusal}
use Rattle.addressgen.specs.declared.Settings.{Settings}
use Rattle.addressgen.specs.declared.State.{State}
use Rattle.addressgen.specs.declared.Ran.{Ran}
use Rattle.addressgen.specs.Stepping.{bit0, bit1, after, addresses}
use Rattle.addressgen.specs.Overwriting.{overwrites_itself}

-- the largest legal mask: two bits
abbrev pub max_mask : ℕ
max_mask = 3

-- refusal 10: mask above 3; mask bit 0 set with d0 = 0; both bits set with d1 = 0
abbrev pub bad_mask : Settings → Bool
bad_mask s = nat_lt max_mask s.mask || bit0 s && s.d0 == 0 || bit0 s && bit1 s && s.d1 == 0

-- refusals 10, 11, 6 and 7 in this order; 6: ov above total; 7: under n words of room
abbrev pub grounds : Settings → State → ℕ → ℕ → List (Row ℕ)
grounds s t n room = 10 ⇐ bad_mask s ∷ 11 ⇐ overwrites_itself s ∷ 6 ⇐ ltb s.total t.ov ∷ 7 ⇐ ltb room n ∷ []

-- What a run answers, in document 01's numbers: the refusal, if there is one, how many iterations it made, the state afterwards, and done.
pub record Answer : Type 0 where
  pub refusal : Option ℕ
  pub count : ℕ
  pub state : State
  pub done : Bool

-- how many iterations are made when up to n are asked for: the smaller of n and total - ov
abbrev pub iterations : Settings → State → ℕ → ℕ
iterations s t n = min n (s.total - t.ov)

-- a run of so many iterations: the state after them; done is ov = total
abbrev pub ran_for : Settings → State → ℕ → Answer
ran_for s t count =
    record { refusal = none; count = count; state = after s t count; done = ((after s t count).ov == s.total) }

-- a refused run: no iteration, the state as given, not done
abbrev pub refused_run : State → ℕ → Answer
refused_run t number = record { refusal = some number; count = 0; state = t; done = false }

-- the code's answer from state t in these numbers
abbrev pub answer_of : State → Result Ran Refusal → Answer
answer_of t (Ok ran) = record { refusal = none; count = ran.count; state = ran.state; done = ran.done }
answer_of t (Err why) = refused_run t (number_of why)

abbrev pub answer_to : Settings → State → ℕ → (refusal : Option ℕ) → Answer
answer_to s t n none = ran_for s t (iterations s t n)
answer_to s t n (some number) = refused_run t number

abbrev pub ran_of : Settings → State → ℕ → ℕ → Answer
ran_of s t n room = answer_to s t n (first_applying (grounds s t n room))

-- what a run answers; its count is the rise of ov; and what its buffer holds afterwards: the addresses of so many iterations, and
-- past them what it had before
pub record Generated (s : Settings) (t : State) (n : ℕ) (before left : List ℕ) (ran : Result Ran Refusal) : Type 0 where
  pub answer : answer_of t ran ≡ ran_of s t n (length before)
  pub rise : (answer_of t ran).state.ov ≡ t.ov + (answer_of t ran).count
  pub written : left ≡ addresses s t (answer_of t ran).count ++ drop (answer_of t ran).count before
