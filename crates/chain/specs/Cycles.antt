-- Document 01, "The stage and the line": what a line of FIFOs shows and keeps in one cycle and in many.
-- Assumes nothing.
use Rattle.std.specs.Prelude.{Bool, false, cond, List, [], ◌∷◌, map}
use Rattle.signals.specs.declared.Payload.{Payload}
pub use Rattle.signals.specs.declared.Cycle.{Cycle}
use Rattle.signals.specs.Stream.{Sample}
use Rattle.fifo.specs.Queue.{Queue, when, is_any, shown_as, emptied}
use Rattle.chain.specs.Line.{mouth, cycle, outlet}

abbrev pub offered : Cycle → List Payload
offered c = when c.valid (c.payload ∷ [])

-- ready at the mouth; 0 in a clear
abbrev pub ready_in : List Queue → Cycle → Bool
ready_in qs c = cond c.clear false (mouth qs c.sink)

-- shown at the outlet; nothing in a clear
abbrev pub shown_in : List Queue → Cycle → List Payload
shown_in qs c = cond c.clear [] (outlet qs (offered c))

-- clear goes to all
abbrev pub after : List Queue → Cycle → List Queue
after qs c = cond c.clear (map emptied qs) (cycle qs (offered c) c.sink)

abbrev pub after_all : List Queue → List Cycle → List Queue
after_all qs [] = qs
after_all qs (c ∷ cs) = after_all (after qs c) cs

-- The outlet in one cycle, as a stream's sample: valid and payload as shown, the sink's ready, and clear.
abbrev pub sample_of : (sink clear : Bool) → List Payload → Sample
sample_of sink clear ps = record { valid = is_any ps; ready = sink; clear = clear; payload = shown_as ps }

abbrev pub outlet_in : List Queue → Cycle → Sample
outlet_in qs c = sample_of c.sink c.clear (shown_in qs c)

-- the outlet's trace
abbrev pub outlet_trace : List Queue → List Cycle → List Sample
outlet_trace qs [] = []
outlet_trace qs (c ∷ cs) = outlet_in qs c ∷ outlet_trace (after qs c) cs
