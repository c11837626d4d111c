-- Document 01, "The stage and the line": one cycle of FIFOs in a row, from the lists at its start. The mouth's FIFO comes first.
-- Assumes nothing.
use Rattle.std.specs.Prelude.{Bool, List, [], ◌∷◌, ◌++◌}
use Rattle.signals.specs.declared.Payload.{Payload}
use Rattle.fifo.specs.Queue.{Queue, ready, shown, next}

-- ready of what stands behind a FIFO: the next FIFO's, or the sink's
abbrev pub mouth : List Queue → (sink : Bool) → Bool
mouth [] sink = sink
mouth (q ∷ qs) sink = ready q

-- FIFO i's sink is FIFO i + 1, and its source FIFO i - 1; all step in the same cycle
abbrev pub cycle : List Queue → (offer : List Payload) → (sink : Bool) → List Queue
cycle [] offer sink = []
cycle (q ∷ qs) offer sink = next q offer (mouth qs sink) ∷ cycle qs (shown q) sink

-- what the last FIFO shows
abbrev pub outlet : List Queue → (offer : List Payload) → List Payload
outlet [] offer = offer
outlet (q ∷ qs) offer = outlet qs (shown q)

-- held in all FIFOs: the last FIFO's list first, in each the oldest first
abbrev pub held_in : List Queue → List Payload
held_in [] = []
held_in (q ∷ qs) = held_in qs ++ q.held
