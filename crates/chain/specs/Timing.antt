-- Request T-12: when a held payload is delivered by a sink that is ready in every cycle, and what a call that asks for it answers. Held
-- payloads are numbered from the outlet, 0 first, and FIFOs 1 to k from the mouth. What the number means is said
-- in `ExactTime.antt` of `demand3`. Assumes nothing.
use Rattle.std.specs.Prelude.{ℕ, zero, suc, ◌+◌, ◌-◌, max, cond, not, List, [], ◌∷◌, leb, ltb, length}
use Rattle.std.proofs.Math.Option.{Option, none, some}
use Rattle.signals.specs.Tables.{Row, ◌⇐◌, first_applying}
use Rattle.fifo.specs.Queue.{Queue}
use Rattle.chain.specs.Line.{held_in}
use Rattle.chain.specs.Calls.{Value, is_well, queues}

-- the number of the FIFO that holds payload j: the mouth's, which is 1, unless those behind it hold j
abbrev pub fifo_holding : List Queue → (j : ℕ) → ℕ
fifo_holding [] j = 0
fifo_holding (q ∷ qs) j = cond (ltb j (length (held_in qs))) (fifo_holding qs j + 1) 1

-- the greatest of the numbers at 0 up to i
abbrev pub greatest : (number : ℕ → ℕ) → (i : ℕ) → ℕ
greatest number zero = number 0
greatest number (suc i) = max (greatest number i) (number (suc i))

-- payload i is delivered after the greatest, over every j up to i, of k minus j's FIFO plus i minus j
unfoldable pub delivery_time : List Queue → (i : ℕ) → ℕ
delivery_time qs i = greatest (λ j. (length qs - fifo_holding qs j) + (i - j)) i

-- What the call answers.
pub record Timing : Type 0 where
  pub refusal : Option ℕ
  pub cycles : ℕ

-- the grounds for refusing it, in the order in which they are tried: the line has not its form; payload i is not held
abbrev pub time_grounds : Value → (i : ℕ) → List (Row ℕ)
time_grounds v i = 6 ⇐ not (is_well v) ∷ 8 ⇐ leb (length (held_in (queues v))) i ∷ []

-- refused, it answers 0
abbrev pub timing_by : (refusal : Option ℕ) → List Queue → (i : ℕ) → Timing
timing_by none qs i = record { refusal = none; cycles = delivery_time qs i }
timing_by (some number) qs i = record { refusal = some number; cycles = 0 }

abbrev pub timing : Value → (i : ℕ) → Timing
timing v i = timing_by (first_applying (time_grounds v i)) (queues v) i
