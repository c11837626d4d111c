-- The exact delivery time at work on lines of three FIFOs: one payload at the mouth, a full line, and one with a gap, which is also run;
-- what it says of a chain that a call gave back; and a line with capacity 1, where it fails. Everything computes from the definitions.
-- Assumes nothing.
use Prim.Native.Nat.{ℕ}
use native.Mathlib.Omega.{arith}
use mathlib.Core.Bool.{true}
use mathlib.Core.List.{List, [], ◌∷◌, map}
use mathlib.Core.Path.{◌≡◌, refl}
use Rattle.std.specs.Prelude.{Ok}
use Rattle.fifo.specs.Queue.{Queue, plain, early_stall_place}
use Rattle.chain.specs.Line.{held_in}
use Rattle.chain.specs.Cycles.{Cycle}
use Rattle.chain.specs.Timing.{delivery_time}
use Rattle.chain.specs.Promises.{Times}
use Rattle.demand3.specs.Demand3.{Ledger, entered_all}
use Rattle.demand3.specs.ExactTime.{Delivers}
use Rattle.demand3.proofs.ExactTime.{exact_time, answer_is_time_lem}
use Rattle.demand3.proofs.Examples.{word, offering, idle, narrow, nine, chain_of, nine_value}

-- a line of plain FIFOs of depth 2 with an early-stall one of depth 4 in the middle, by the payloads that each holds
abbrev line : (mouth middle end : List ℕ) → List Queue
line mouth middle end =
    record { place = plain 2; held = map word mouth }
    ∷ record { place = early_stall_place 4; held = map word middle }
    ∷ record { place = plain 2; held = map word end }
    ∷ []

-- the delivery times of some payloads
abbrev times : List Queue → (payloads : List ℕ) → List ℕ
times qs payloads = map (delivery_time qs) payloads

-- one payload at the mouth: k - 1
one_at_mouth : times (line (1 ∷ []) [] []) (0 ∷ []) ≡ 2 ∷ []
unfolding delivery_time
one_at_mouth = refl

-- a full line: one after the other
full_line : times (line (6 ∷ 7 ∷ []) (3 ∷ 4 ∷ 5 ∷ []) (1 ∷ 2 ∷ [])) (0 ∷ 1 ∷ 2 ∷ 3 ∷ 4 ∷ 5 ∷ 6 ∷ []) ≡ 0 ∷ 1 ∷ 2 ∷ 3 ∷ 4 ∷ 5 ∷ 6 ∷ []
unfolding delivery_time
full_line = refl

-- a gap: 1 goes at once, 2 has its way to go, and 3 comes a cycle after it
abbrev gap : List Queue
gap = line (2 ∷ 3 ∷ []) [] (1 ∷ [])

gap_times : times gap (0 ∷ 1 ∷ 2 ∷ []) ≡ 0 ∷ 2 ∷ 3 ∷ []
unfolding delivery_time
gap_times = refl

-- so it runs, with nothing offered and with an offer in every cycle
abbrev held : List Queue → Ledger
held qs = record { line = qs; accepted = held_in qs; delivered = [] }

abbrev draining : List Cycle
draining = idle true ∷ idle true ∷ idle true ∷ idle true ∷ []

abbrev offering_on : List Cycle
offering_on = offering 4 true ∷ offering 5 true ∷ offering 6 true ∷ offering 7 true ∷ []

gap_runs :
    ((entered_all (held gap) (idle true ∷ [])).delivered ≡ word 1 ∷ [])
    × ((entered_all (held gap) (idle true ∷ idle true ∷ [])).delivered ≡ word 1 ∷ [])
    × ((entered_all (held gap) (idle true ∷ idle true ∷ idle true ∷ [])).delivered ≡ word 1 ∷ word 2 ∷ [])
    × ((entered_all (held gap) draining).delivered ≡ word 1 ∷ word 2 ∷ word 3 ∷ [])
    × ((entered_all (held gap) offering_on).delivered ≡ word 1 ∷ word 2 ∷ word 3 ∷ [])
gap_runs = (refl, refl, refl, refl, refl)

-- and so the claim says of payload 2, whatever is offered
gap_delivers : Delivers (held gap) offering_on 3 2
unfolding delivery_time
gap_delivers =
    (exact_time (held gap) (omega arith, (omega arith, (omega arith, tt))) 2 (omega arith) offering_on
    ((refl, refl), ((refl, refl), ((refl, refl), ((refl, refl), tt))))
    (omega arith)
    3).1
    refl

-- the chain of two FIFOs that a step gave back, 9 being at its mouth: the call answers 1, and so 9 is delivered in the second cycle
nine_times : Times (chain_of nine) 0 (Ok 1)
unfolding delivery_time
nine_times = rw nine_value refl

nine_delivers : Delivers (held nine) (idle true ∷ offering 5 true ∷ []) 1 0
nine_delivers =
    (answer_is_time_lem (chain_of nine) 0 1 nine_times (held nine) nine_value (idle true ∷ offering 5 true ∷ [])
    ((refl, refl), ((refl, refl), tt))
    (omega arith)
    1).1
    refl

-- Capacities 2 and then 1: by the formula 2 would be delivered in cycle 1, and it is delivered in cycle 2.
narrow_time : delivery_time narrow.line 1 ≡ 1
unfolding delivery_time
narrow_time = refl

narrow_is_later :
    ((entered_all narrow (idle true ∷ idle true ∷ [])).delivered ≡ word 1 ∷ [])
    × ((entered_all narrow (idle true ∷ idle true ∷ idle true ∷ [])).delivered ≡ word 1 ∷ word 2 ∷ [])
narrow_is_later = (refl, refl)
