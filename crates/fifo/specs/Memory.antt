-- Which value pointers stand for in lent memory: that of the FIFO with these pointers, whose slot i is word i with strobe i.
-- Assumes nothing.
use Rattle.std.specs.Prelude.{ℕ, Bool, cond, ◌&&◌, List, [], ◌∷◌, length, leb}
use Rattle.signals.specs.declared.Payload.{Payload}
use Rattle.fifo.specs.declared.Fifo.{Fifo}
use Rattle.fifo.specs.declared.Pointers.{Pointers}
use Rattle.fifo.specs.Queue.{Value, ill}
use Rattle.fifo.specs.Ring.{fifo_with, trusted, strobes_checked}

-- slot i is word i with strobe i
unfoldable pub slots_in : (words strbs : List ℕ) → List Payload
slots_in [] strbs = []
slots_in (w ∷ words) [] = []
slots_in (w ∷ words) (s ∷ strbs) = record { «data» = w; strb = s } ∷ slots_in words strbs

abbrev pub fifo_in : Pointers → (words strbs : List ℕ) → Fifo
fifo_in p words strbs = fifo_with p (slots_in words strbs)

-- the memory has a slot for each place of a ring
abbrev pub has_slots : (depth : ℕ) → (words strbs : List ℕ) → Bool
has_slots depth words strbs = leb depth (length words) && leb depth (length strbs)

-- the value by the numbers, and the value by the held strobes too
unfoldable pub trusted_in : Pointers → (words strbs : List ℕ) → Value
trusted_in p words strbs = cond (has_slots p.place.depth words strbs) (trusted (fifo_in p words strbs)) ill

unfoldable pub value_in : Pointers → (words strbs : List ℕ) → Value
value_in p words strbs = strobes_checked (trusted_in p words strbs)
