-- Demand 3 at work on a plain FIFO of depth 2 and an early-stall one of depth 4: its bound is met exactly, and a session of steps and
-- runs, two of them refused and one with a clear, meets its hypotheses; and with capacity 1 the bound fails. Everything computes but the
-- values of FIFOs, which are `fifo`'s affair: it has some FIFO of each (`some_fifo`). Assumes nothing.
use Prim.Native.Nat.{ℕ, ◌-◌}
use native.Mathlib.Omega.{arith}
use mathlib.Core.Bool.{Bool, true, false, true≢false}
use mathlib.Core.List.{List, [], ◌∷◌, ◌++◌, map}
use mathlib.Core.Logic.{◌↔◌}
use mathlib.Core.Path.{◌≡◌, refl}
use lib.ListN.{length, replicate}
use Rattle.std.specs.Prelude.{Ok}
use Rattle.signals.specs.declared.Payload.{Payload}
use Rattle.signals.specs.Refusals.{accepts}
use Rattle.signals.specs.Payloads.{zeros}
use Rattle.signals.specs.Stream.{Sample, clear_cycle}
use Rattle.signals.specs.Tables.{first_applying}
use Rattle.fifo.specs.declared.Place.{Place}
use Rattle.fifo.specs.Queue.{Queue, plain, early_stall_place, legal_place, empty, legal_strbs}
use Rattle.fifo.specs.Queue as queue
use Rattle.fifo.specs.Promises as fifo
use Rattle.fifo.proofs.Some.{fifo_of, some_fifo}
use Rattle.places.specs.Listing.{max_fifos}
use Rattle.chain.specs.declared.Chain.{Chain}
use Rattle.chain.specs.Line.{held_in}
use Rattle.chain.specs.Cycles.{Cycle, sample_of}
use Rattle.chain.specs.Calls.{Call, step, run, well, grounds, accepted, answer, back}
use Rattle.chain.specs.Promises.{value, Made, Done, Promised}
use Rattle.demand3.specs.Demand3.{Ledger, opened, entered_all, Session, outlets_in, KeepsRules, Drops, Begins, Demand3}
use Rattle.demand3.proofs.Demand3.{demand3}

abbrev places : List Place
places = plain 2 ∷ early_stall_place 4 ∷ []

abbrev pub word : ℕ → Payload
word n = record { «data» = n; strb = 15 }

abbrev pub offering : ℕ → (sink : Bool) → Cycle
offering n sink = record { valid = true; payload = word n; sink = sink; clear = false }

abbrev pub idle : (sink : Bool) → Cycle
idle sink = record { valid = false; payload = zeros; sink = sink; clear = false }

abbrev clearing : Cycle
clearing = record { valid = false; payload = zeros; sink = true; clear = true }

-- accepted with none held: not delivered by the first later sink-ready cycle, but by the second
one_is_too_few : (entered_all (opened places) (offering 7 true ∷ idle true ∷ [])).delivered ≡ []
one_is_too_few = refl

two_are_enough : (entered_all (opened places) (offering 7 true ∷ idle true ∷ idle true ∷ [])).delivered ≡ word 7 ∷ []
two_are_enough = refl

-- a full FIFO does not accept in the cycle in which it pops
full_mouth : (entered_all (opened (plain 2 ∷ [])) (offering 1 false ∷ offering 2 false ∷ offering 3 true ∷ offering 4 false ∷ [])).accepted
    ≡ word 1 ∷ word 2 ∷ word 4 ∷ []
full_mouth = refl

-- an early-stall FIFO of depth 4 takes three, a plain one four
early_stall_takes_three :
    ((entered_all (opened (early_stall_place 4 ∷ [])) (map (λ n. offering n false) (1 ∷ 2 ∷ 3 ∷ 4 ∷ 5 ∷ []))).accepted ≡ map word (1 ∷ 2 ∷ 3 ∷ []))
    × ((entered_all (opened (plain 4 ∷ [])) (map (λ n. offering n false) (1 ∷ 2 ∷ 3 ∷ 4 ∷ 5 ∷ []))).accepted ≡ map word (1 ∷ 2 ∷ 3 ∷ 4 ∷ []))
early_stall_takes_three = (refl, refl)

-- Capacities 2 and then 1, which is why an early-stall depth of 2 is refused: 3 is accepted with two held, and is not delivered by the
-- fourth later sink-ready cycle, but by the fifth.
abbrev pub narrow : Ledger
narrow = entered_all (opened (plain 2 ∷ early_stall_place 2 ∷ [])) (offering 1 false ∷ offering 2 false ∷ offering 3 false ∷ [])

narrow_accepts : narrow.accepted ≡ word 1 ∷ word 2 ∷ word 3 ∷ []
narrow_accepts = refl

four_are_too_few : (entered_all narrow (idle true ∷ idle true ∷ idle true ∷ idle true ∷ [])).delivered ≡ word 1 ∷ word 2 ∷ []
four_are_too_few = refl

five_are_enough :
    (entered_all narrow (idle true ∷ idle true ∷ idle true ∷ idle true ∷ idle true ∷ [])).delivered ≡ word 1 ∷ word 2 ∷ word 3 ∷ []
five_are_enough = refl

-- held is told from the outlet on, and a clear starts the ledger anew
abbrev filled : Ledger
filled = entered_all (opened places) (offering 1 false ∷ offering 2 false ∷ offering 3 false ∷ offering 4 true ∷ [])

filled_order : (filled.accepted ≡ word 1 ∷ word 2 ∷ word 3 ∷ word 4 ∷ [])
    × (filled.delivered ≡ word 1 ∷ [])
    × (held_in filled.line ≡ word 2 ∷ word 3 ∷ word 4 ∷ [])
filled_order = (refl, refl, refl)

cleared_anew : (entered_all filled (clearing ∷ offering 5 true ∷ [])).accepted ≡ word 5 ∷ []
cleared_anew = refl

-- A session: 9 is accepted in a step, and a run of four cycles delivers it in its third; a clear with a bad strobe and a run that is
-- lent too little are refused between. A last run accepts 1, clears while 2 is offered, and then accepts 3.
abbrev none : List Queue
none = empty (plain 2) ∷ empty (early_stall_place 4) ∷ []

abbrev pub nine : List Queue
nine = record { place = plain 2; held = word 9 ∷ [] } ∷ empty (early_stall_place 4) ∷ []

abbrev three : List Queue
three = empty (plain 2) ∷ record { place = early_stall_place 4; held = word 3 ∷ [] } ∷ []

abbrev accepting : Call
accepting = step true (word 9) false false

abbrev bad_clear : Call
bad_clear = step true (record { «data» = 1; strb = 16 }) false true

abbrev draining : Call
draining = run (0 ∷ 0 ∷ 0 ∷ 0 ∷ []) (0 ∷ 0 ∷ 0 ∷ 0 ∷ []) (0 ∷ 0 ∷ 1 ∷ 1 ∷ []) (5 ∷ 5 ∷ 5 ∷ 5 ∷ 5 ∷ []) (6 ∷ 6 ∷ 6 ∷ 6 ∷ [])

abbrev short_run : Call
short_run = run (0 ∷ []) (0 ∷ []) (1 ∷ []) [] []

abbrev clearing_run : Call
clearing_run = run (241 ∷ 245 ∷ 241 ∷ 0 ∷ []) (1 ∷ 2 ∷ 3 ∷ 0 ∷ []) (0 ∷ 1 ∷ 0 ∷ 0 ∷ []) (5 ∷ 5 ∷ 5 ∷ 5 ∷ 5 ∷ []) (6 ∷ 6 ∷ 6 ∷ 6 ∷ [])

-- its second entry has clear and the sink's ready, and nothing else
run_writes_clear : (accepted none clearing_run).out_controls ≡ 0 ∷ 6 ∷ 0 ∷ 0 ∷ 5 ∷ []
run_writes_clear = refl

abbrev showing : (sink : Bool) → Payload → Sample
showing sink p = sample_of sink false (p ∷ [])

abbrev nothing : Sample
nothing = sample_of false false []

-- a chain of some FIFOs that stand for the queues
abbrev pub chain_of : List Queue → Chain
chain_of qs = record { count = length qs; fifos = map fifo_of qs ++ replicate (max_fifos - length qs) (fifo_of (empty (plain 2))) }

empty_value : (place : Place) → legal_place place ≡ true → fifo.value (fifo_of (empty place)) ≡ queue.well (empty place)
unfolding legal_strbs
empty_value place legal = some_fifo (empty place) legal (omega arith) refl

none_value : value (chain_of none) ≡ well none
unfolding value
none_value = rw (empty_value (plain 2) refl, empty_value (early_stall_place 4) refl)

pub nine_value : value (chain_of nine) ≡ well nine
unfolding value legal_strbs
nine_value =
    rw (some_fifo (record { place = plain 2; held = word 9 ∷ [] }) refl (omega arith) refl, empty_value (early_stall_place 4) refl)

three_value : value (chain_of three) ≡ well three
unfolding value legal_strbs
three_value =
    rw (some_fifo (record { place = early_stall_place 4; held = word 3 ∷ [] }) refl (omega arith) refl, empty_value (plain 2) refl)

abbrev called : List Queue → Call → List Queue → Done
called before call after = record { call = call; answered = answer (well before) call; back = chain_of after }

promised : (before after : List Queue) (call : Call) → value (chain_of before) ≡ well before → value (chain_of after) ≡ back (well before) call →
    (accepts (first_applying (grounds true call)) ≡ false → chain_of after ≡ chain_of before) → Promised (chain_of before) (called before call after)
promised before after call v w same = record { answers = rw v; gives = rw v w; kept = rw v same }

abbrev pub calls : List Done
calls =
    called none accepting nine
    ∷ called nine bad_clear nine
    ∷ called nine draining none
    ∷ called none short_run none
    ∷ called none clearing_run three
    ∷ []

abbrev pub new : Chain
new = chain_of none

pub made : Made places (Ok new)
made = record { refusal = refl; gives = none_value }

pub session : Session new calls
session = (
  promised none nine accepting none_value nine_value (λ e. absurd (true≢false e)),
  (
    promised nine nine bad_clear nine_value nine_value (λ e. refl),
    (
      promised nine none draining nine_value none_value (λ e. absurd (true≢false e)),
      (
        promised none none short_run none_value none_value (λ e. refl),
        (promised none three clearing_run none_value three_value (λ e. absurd (true≢false e)), tt),
      ),
    ),
  ),
)

pub holds : Demand3 places calls
holds = demand3 places refl new made calls session

-- the cycles of the last run
abbrev clearing_two : Cycle
clearing_two = record { valid = true; payload = word 2; sink = true; clear = true }

abbrev last_run : List Cycle
last_run = offering 1 false ∷ clearing_two ∷ offering 3 false ∷ idle false ∷ []

-- what was answered: nine cycles, 9 shown in two of them, and one clear
pub shows_nine : map (λ s. s.payload.«data») (outlets_in calls) ≡ 0 ∷ 0 ∷ 9 ∷ 9 ∷ 0 ∷ 0 ∷ 0 ∷ 0 ∷ 0 ∷ []
shows_nine = refl

pub shows_clear : map clear_cycle (outlets_in calls) ≡ false ∷ false ∷ false ∷ false ∷ false ∷ false ∷ true ∷ false ∷ false ∷ []
shows_clear = refl

-- what `outlet` says of the two, of which the first is not taken
pub nine_stays : KeepsRules (showing false (word 9)) (showing true (word 9))
nine_stays = holds.outlet (nothing ∷ nothing ∷ []) (sample_of true false [] ∷ nothing ∷ sample_of true true [] ∷ nothing ∷ nothing ∷ []) _ _ refl refl

-- what `order` says in the midst of the run
pub order_midway : let l = entered_all (opened places) (offering 9 false ∷ idle false ∷ []) in l.accepted ≡ l.delivered ++ held_in l.line
order_midway = holds.order (offering 9 false ∷ idle false ∷ []) (idle false ∷ idle true ∷ idle true ∷ last_run) refl

-- what `delay` says: n = 0 and k = 2, and the sink is ready twice
pub nine_delivered :
    Begins (word 9 ∷ []) (entered_all (opened places) (offering 9 false ∷ idle false ∷ idle false ∷ idle true ∷ idle true ∷ [])).delivered
nine_delivered =
    holds.delay [] (idle false ∷ idle false ∷ idle true ∷ idle true ∷ []) last_run (offering 9 false) refl refl
    (refl, (refl, (refl, (refl, tt))))
    (omega arith)

-- what `clears` says: 1 was held, and it alone is dropped; 2, which is offered in the clear, is not
abbrev before_clear : List Cycle
before_clear = offering 9 false ∷ idle false ∷ idle false ∷ idle true ∷ idle true ∷ offering 1 false ∷ []

pub one_dropped : (dropped : List Payload) → Drops (entered_all (opened places) before_clear) clearing_two dropped ↔ (dropped ≡ word 1 ∷ [])
one_dropped = (holds.clears before_clear (offering 3 false ∷ idle false ∷ []) clearing_two refl refl).drops_held
