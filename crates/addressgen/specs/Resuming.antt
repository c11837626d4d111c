-- What follows for several runs, and for runs from the start state. Assumes nothing.
use Rattle.std.specs.Prelude.{◌≡◌, ℕ, ◌+◌, ◌≤◌, false, ◌++◌, nat_le}
use Rattle.std.proofs.Math.Option.{none}
use Rattle.addressgen.specs.declared.Settings.{Settings}
use Rattle.addressgen.specs.declared.State.{State}
use Rattle.addressgen.specs.Stepping.{start, addresses}
use Rattle.addressgen.specs.Overwriting.{overwrites_itself}
use Rattle.addressgen.specs.Run.{bad_mask, Answer, ran_of}

-- two runs from state t are one whole run: neither is refused, the counts add up, the addresses follow each other, and the
-- state afterwards and done are the same
pub record AreOne (s : Settings) (t : State) (first second whole : Answer) : Type 0 where
  pub second_accepted : second.refusal ≡ none
  pub whole_accepted : whole.refusal ≡ none
  pub count : whole.count ≡ first.count + second.count
  pub given : addresses s t whole.count ≡ addresses s t first.count ++ addresses s first.state second.count
  pub state : whole.state ≡ second.state
  pub done : whole.done ≡ second.done

-- a run for n, and where there is room for it a run for m from the state that it gave back, are one run for n + m
abbrev pub RunsResume : Type 0
RunsResume =
    (s : Settings) (t : State) (n m room room' room'' : ℕ) → (ran_of s t n room).refusal ≡ none → m ≤ room' → n + m ≤ room'' →
    AreOne s t (ran_of s t n room) (ran_of s (ran_of s t n room).state m room') (ran_of s t (n + m) room'')

-- a run for n is done exactly when n reaches total, and has then made total iterations
pub record DoneAtTotal (s : Settings) (n : ℕ) (run : Answer) : Type 0 where
  pub accepted : run.refusal ≡ none
  pub done : run.done ≡ nat_le s.total n
  pub count : s.total ≤ n → run.count ≡ s.total

-- so it is from the start state, with settings that are not refused and enough room
abbrev pub RunsFinish : Type 0
RunsFinish =
    (s : Settings) (n room : ℕ) → bad_mask s ≡ false → overwrites_itself s ≡ false → n ≤ room →
    DoneAtTotal s n (ran_of s start n room)
