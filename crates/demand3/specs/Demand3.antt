-- Demand 3 of document 01, with requests T-08 and T-09: between clears a line of FIFOs, of either kind in any mix, loses, invents,
-- reorders and overdelays nothing, and a clear drops exactly what is held. One claim about a whole list of steps and runs on one chain;
-- it is proved in `proofs/Demand3.antt`. Assumes nothing.
use Rattle.std.specs.Prelude.{ℕ, ◌+◌, ◌≤◌, true, false, cond, ◌&&◌, List, [], ◌∷◌, ◌++◌, map, ◌↔◌, ◌≡◌, length, take, Ok}
use Rattle.std.proofs.Math.Option.{Option, none, some}
use Rattle.signals.specs.declared.Payload.{Payload}
use Rattle.signals.specs.Refusals.{accepts}
use Rattle.signals.specs.Stream.{Sample, sample, clear_cycle}
use Rattle.signals.specs.Tables.{first_applying}
use Rattle.stream_checker.specs.Rules.{breaks_held, breaks_stable}
use Rattle.fifo.specs.declared.Place.{Place}
use Rattle.fifo.specs.Queue.{Queue, when, capacity, empty}
use Rattle.chain.specs.declared.Chain.{Chain}
use Rattle.chain.specs.Line.{held_in}
use Rattle.chain.specs.Cycles.{Cycle, ready_in, shown_in, after}
use Rattle.chain.specs.Calls.{Call, step, run, Answer, well, grounds, asked, answer, new_grounds}
use Rattle.chain.specs.Promises.{value, Made, Done, Promised}

-- accepted: the offer's valid and the mouth's ready are both 1
abbrev pub accepted_in : List Queue → Cycle → List Payload
accepted_in qs c = when (c.valid && ready_in qs c) (c.payload ∷ [])

-- delivered: the outlet's valid and the sink's ready are both 1
abbrev pub delivered_in : List Queue → Cycle → List Payload
delivered_in qs c = when c.sink (shown_in qs c)

-- A line with what it accepted and delivered since the last clear, or since the start if there was none.
pub record Ledger : Type 0 where
  pub line : List Queue
  pub accepted : List Payload
  pub delivered : List Payload

abbrev pub opened : (places : List Place) → Ledger
opened places = record { line = map empty places; accepted = []; delivered = [] }

-- a cycle's entry; a clear starts the ledger anew
abbrev pub entered : Ledger → Cycle → Ledger
entered l c =
    record {
      line = after l.line c;
      accepted = cond c.clear [] (l.accepted ++ accepted_in l.line c);
      delivered = cond c.clear [] (l.delivered ++ delivered_in l.line c);
    }

abbrev pub entered_all : Ledger → List Cycle → Ledger
entered_all l [] = l
entered_all l (c ∷ cs) = entered_all (entered l c) cs

-- Each call is given the chain that the call before gave back, and answers as promised.
abbrev pub Session : Chain → List Done → Type 0
Session given [] = Unit {0}
Session given (d ∷ ds) = Promised given d × Session d.back ds

-- the cycles of a call on a line that has its form: a refused call has none
abbrev pub cycles_by : (refusal : Option ℕ) → Call → List Cycle
cycles_by none call = asked call
cycles_by (some number) call = []

abbrev pub cycles_of : Done → List Cycle
cycles_of d = cycles_by (first_applying (grounds true d.call)) d.call

-- the cycles of all calls follow one another in order
abbrev pub cycles_in : List Done → List Cycle
cycles_in [] = []
cycles_in (d ∷ ds) = cycles_of d ++ cycles_in ds

-- the outlet as a call answered it: a step by what it shows, a run by what it wrote, its clears in bit 2
abbrev pub read_back : (controls words : List ℕ) → List Sample
read_back [] ws = []
read_back (c ∷ cs) [] = []
read_back (c ∷ cs) (w ∷ ws) = sample c w ∷ read_back cs ws

abbrev pub outlet_of : (call : Call) → Answer call → List Sample
outlet_of (step valid payload sink clear) a =
    cond (accepts a.refusal)
    (record { valid = a.valid; ready = sink; clear = clear; payload = a.payload } ∷ [])
    []
outlet_of (run controls words sinks out_controls out_words) a =
    cond (accepts a.refusal)
    (read_back (take (length controls) a.out_controls) (take (length controls) a.out_words))
    []

abbrev pub outlets_in : List Done → List Sample
outlets_in [] = []
outlets_in (d ∷ ds) = outlet_of d.call d.answered ++ outlets_in ds

-- rules 4 and 2 of the stream checker, between a cycle and the next
pub record KeepsRules (before now : Sample) : Type 0 where
  pub rule4 : breaks_held before now ≡ false
  pub rule2 : breaks_stable before now ≡ false

-- what a cycle drops: all that was accepted by its end is delivered, then dropped, then held
abbrev pub Drops : Ledger → Cycle → (dropped : List Payload) → Type 0
Drops l c dropped =
    l.accepted ++ accepted_in l.line c ≡ l.delivered ++ delivered_in l.line c ++ dropped ++ held_in (after l.line c)

-- A clear cycle: its offer is not accepted and nothing is delivered; the payloads dropped are exactly those held when it began; and
-- accepted since the last clear is delivered followed by dropped.
pub record Clears (l : Ledger) (c : Cycle) : Type 0 where
  pub accepts_none : accepted_in l.line c ≡ []
  pub delivers_none : delivered_in l.line c ≡ []
  pub drops_held : (dropped : List Payload) → Drops l c dropped ↔ (dropped ≡ held_in l.line)
  pub settles : (dropped : List Payload) → Drops l c dropped → l.accepted ≡ l.delivered ++ dropped

-- each FIFO has capacity at least 2
abbrev pub CapacityAtLeast2 : List Queue → Type 0
CapacityAtLeast2 [] = Unit {0}
CapacityAtLeast2 (q ∷ qs) = (2 ≤ capacity q.place) × CapacityAtLeast2 qs

-- in how many of the cycles the sink is ready
abbrev pub readies : List Cycle → ℕ
readies [] = 0
readies (c ∷ cs) = cond c.sink 1 0 + readies cs

abbrev pub NoClear : List Cycle → Type 0
NoClear [] = Unit {0}
NoClear (c ∷ cs) = (c.clear ≡ false) × NoClear cs

-- ys begins with xs
abbrev pub Begins : (xs ys : List Payload) → Type 0
Begins xs ys = (more : List Payload) × (ys ≡ xs ++ more)

-- the number that a call was refused with, if it was
abbrev pub refusal_in : (call : Call) → Answer call → Option ℕ
refusal_in (step valid payload sink clear) a = a.refusal
refusal_in (run controls words sinks out_controls out_words) a = a.refusal

-- a call answers, and gives back, what the rules give where the cycles before it left the ledger l; and it is not refused with 6
pub record Ruled (l : Ledger) (d : Done) : Type 0 where
  pub answers : d.answered ≡ answer (well l.line) d.call
  pub gives : value d.back ≡ well (entered_all l (cycles_of d)).line
  pub not6 : refusal_in d.call d.answered ≡ some 6 → ⊥

pub record Demand3 (places : List Place) (calls : List Done) : Type 0 where
  -- after every call
  pub answers : (past rest : List Done) (d : Done) → calls ≡ past ++ d ∷ rest →
      Ruled (entered_all (opened places) (cycles_in past)) d
  -- after every cycle: accepted is, in order, delivered followed by held
  pub order : (past rest : List Cycle) → cycles_in calls ≡ past ++ rest →
      let l = entered_all (opened places) past in
      l.accepted ≡ l.delivered ++ held_in l.line
  -- at every clear
  pub clears : (past rest : List Cycle) (c : Cycle) → cycles_in calls ≡ past ++ c ∷ rest → c.clear ≡ true →
      Clears (entered_all (opened places) past) c
  -- between neighbouring cycles, from one call to the next too; a clear cycle is not judged, and by the rules lays no duty
  pub outlet : (past rest : List Sample) (before now : Sample) → outlets_in calls ≡ past ++ before ∷ now ∷ rest →
      clear_cycle now ≡ false → KeepsRules before now
  -- the line's FIFOs have capacity at least 2, on which the delay rests
  pub capacity : CapacityAtLeast2 (opened places).line
  -- accepted in cycle c with n held: delivered by the (n + k)th later cycle in which the sink is ready
  pub delay : (past stretch rest : List Cycle) (c : Cycle) → cycles_in calls ≡ past ++ c ∷ stretch ++ rest →
      let l = entered_all (opened places) past in
      (c.valid && ready_in l.line c) ≡ true → NoClear stretch →
      length (held_in l.line) + length places ≤ readies stretch →
      Begins (entered l c).accepted (entered_all (entered l c) stretch).delivered

-- The claim: for every list of places that `Chain::new` accepts, of either kind in any mix, every chain that it gives, and every session
-- on that chain.
abbrev pub Claim : Type 0
Claim =
    (places : List Place) → first_applying (new_grounds places) ≡ none → (new : Chain) → Made places (Ok new) →
    (calls : List Done) → Session new calls → Demand3 places calls
