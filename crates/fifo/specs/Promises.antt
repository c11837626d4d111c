-- What `Fifo::new`, the step of a FIFO and the calls in lent memory promise. The position of the oldest and the unused slots of a FIFO
-- that is handed back, or that is left in memory, are free, unless the call was refused. Assumes nothing.
use Rattle.std.specs.Prelude.{ℕ, Bool, false, cond, List, ◌≡◌, drop, Result, Ok, Err, IfOk}
use Rattle.std.proofs.Math.Option.{none}
use Rattle.signals.specs.declared.Payload.{Payload}
use Rattle.signals.specs.declared.Refusal.{Refusal}
use Rattle.signals.specs.declared.Stepped.{Stepped}
use Rattle.signals.specs.Refusals.{number_of, refusal_of, accepts}
use Rattle.signals.specs.Tables.{first_applying}
use Rattle.fifo.specs.declared.Place.{Place}
use Rattle.fifo.specs.declared.Fifo.{Fifo}
use Rattle.fifo.specs.declared.Pointers.{Pointers}
use Rattle.fifo.specs.Queue.{Value, ill, well, is_well, empty, Answer, refused, step_of, new_grounds}
use Rattle.fifo.specs.Memory.{has_slots}
pub use Rattle.fifo.specs.Ring.{value, trusted, ready_in}
pub use Rattle.fifo.specs.Memory.{value_in, trusted_in}

-- a new FIFO is empty, at its place, unless it is refused
pub record Made (place : Place) (r : Result Fifo Refusal) : Type 0 where
  pub refusal : refusal_of r ≡ first_applying (new_grounds place)
  pub gives : IfOk r (λ f. value f ≡ well (empty place))

-- a step's answer, with what it hands back read by `value_of`: the next, or what was given where it is refused
abbrev pub answered : {S : Type 0} → (value_of : S → Value) → (given : S) → Result (Stepped S) Refusal → Answer
answered value_of given (Ok s) =
    record { refusal = none; ready = s.ready; valid = s.valid; payload = s.payload; next = value_of s.next }
answered value_of given (Err why) = refused (number_of why) (value_of given)

-- the answer is the rule's, and a refused FIFO is as it was given
pub record Steps (value_of : Fifo → Value) (f : Fifo) (valid : Bool) (p : Payload) (sink clear : Bool) (r : Result (Stepped Fifo) Refusal) : Type 0 where
  pub answer : answered value_of f r ≡ step_of (value_of f) valid p sink clear

-- lent memory past so many slots is as it was
pub record StaysPast (depth : ℕ) (words strbs afterWords afterStrbs : List ℕ) : Type 0 where
  pub of_words : drop depth afterWords ≡ drop depth words
  pub of_strbs : drop depth afterStrbs ≡ drop depth strbs

-- A FIFO laid in lent memory: the pointers stand there for what it stood for, by its numbers. Where there is too little memory, or the
-- numbers are not in range, they stand for nothing, and the memory is as it was.
pub record LaysIn (f : Fifo) (words strbs : List ℕ) (r : Pointers) (afterWords afterStrbs : List ℕ) : Type 0 where
  pub gives : trusted_in r afterWords afterStrbs ≡ cond (has_slots f.place.depth words strbs) (trusted f) ill
  pub past : StaysPast f.place.depth words strbs afterWords afterStrbs
  pub kept : is_well (trusted_in r afterWords afterStrbs) ≡ false → (afterWords ≡ words) × (afterStrbs ≡ strbs)

-- a step's answer in lent memory
abbrev pub answered_in : (given : Pointers) → Result (Stepped Pointers) Refusal → (afterWords afterStrbs : List ℕ) → Answer
answered_in given r afterWords afterStrbs = answered (λ p. trusted_in p afterWords afterStrbs) given r

-- the answer is the rule's, memory past the depth stays, and where it is refused pointers and their memory are as they were given
pub record StepsIn (p : Pointers) (words strbs : List ℕ) (valid : Bool) (offer : Payload) (sink clear : Bool) (r : Result (Stepped Pointers) Refusal)
    (afterWords afterStrbs : List ℕ) : Type 0 where
  pub answer : answered_in p r afterWords afterStrbs ≡ step_of (trusted_in p words strbs) valid offer sink clear
  pub past : StaysPast p.place.depth words strbs afterWords afterStrbs
  pub kept : accepts (refusal_of r) ≡ false → (afterWords ≡ words) × (afterStrbs ≡ strbs)
