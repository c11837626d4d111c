-- Which value a `Fifo` stands for: its payloads lie in a ring of `depth` slots, from the position of the oldest on; and which slots
-- these are. `proofs/Places.antt` and `proofs/Form.antt` prove `PlaceIsRemainder` and `EveryPlace`. Assumes nothing.
use Rattle.std.specs.Prelude.{ℕ, zero, suc, ◌+◌, ◌-◌, ◌*◌, ◌%◌, ◌<◌, ◌≤◌, Bool, true, cond, ◌&&◌, List, [], ◌∷◌, ◌≡◌, get_or, leb, ltb}
use Rattle.signals.specs.declared.Payload.{Payload}
use Rattle.signals.specs.Payloads.{zeros}
use Rattle.fifo.specs.declared.Fifo.{Fifo}
use Rattle.fifo.specs.declared.Pointers.{Pointers}
use Rattle.fifo.specs.Queue.{Queue, Value, ill, well, capacity, legal_place, legal_strbs}

-- whether a place has not passed the end of the ring
abbrev pub is_inside : (depth place : ℕ) → Bool
is_inside depth place = ltb place depth

-- the slot at a place that has passed the end of the ring at most once, found by a comparison
unfoldable pub wrapped : (depth place : ℕ) → ℕ
wrapped depth place = cond (is_inside depth place) place (place - depth)

-- Request T-02: of a sum below twice the depth it is the slot that a remainder gives. The code's `wrap`, and `ring`, are this place.
abbrev pub PlaceIsRemainder : Type 0
PlaceIsRemainder =
    (depth position count : ℕ) → position + count < 2 * depth → wrapped depth (position + count) ≡ (position + count) % depth

-- n payloads from the slot `at` on, each at the place after the one before
unfoldable pub ring : List Payload → (depth at n : ℕ) → List Payload
ring slots depth at zero = []
ring slots depth at (suc n) = get_or slots at zeros ∷ ring slots depth (wrapped depth (at + 1)) n

-- a FIFO but for its slots, and pointers with slots for them
abbrev pub pointers_of : Fifo → Pointers
pointers_of f = record { place = f.place; count = f.count; oldest = f.oldest }

abbrev pub fifo_with : Pointers → (slots : List Payload) → Fifo
fifo_with p slots = record { place = p.place; count = p.count; oldest = p.oldest; slots = slots }

-- ready to the source, by the numbers: fewer than the capacity are counted
abbrev pub ready_in : Pointers → Bool
ready_in p = ltb p.count (capacity p.place)

-- the queue in the slots, whether or not the numbers are in range
abbrev pub queue_of : Fifo → Queue
queue_of f = record { place = f.place; held = ring f.slots f.place.depth f.oldest f.count }

-- the numbers are in range: a legal place, a position below its depth, and no more held than its capacity
abbrev pub numbers_in_range : Pointers → Bool
numbers_in_range p = legal_place p.place && (ltb p.oldest p.place.depth && leb p.count (capacity p.place))

abbrev pub in_range : Fifo → Bool
in_range f = numbers_in_range (pointers_of f)

-- A FIFO's places are the remainders'.
pub record ByRemainder (f : Fifo) : Type 0 where
  -- from its position, every count up to its capacity gives a sum below twice its depth
  pub once : (count : ℕ) → count ≤ capacity f.place → f.oldest + count < 2 * f.place.depth
  -- where the next payload joins
  pub end : wrapped f.place.depth (f.oldest + f.count) ≡ (f.oldest + f.count) % f.place.depth
  -- where the next oldest lies
  pub next_oldest : wrapped f.place.depth (f.oldest + 1) ≡ (f.oldest + 1) % f.place.depth
  -- where held payload i lies, the oldest being 0
  pub held : (i : ℕ) → i < f.count → get_or (queue_of f).held i zeros ≡ get_or f.slots ((f.oldest + i) % f.place.depth) zeros

-- so it is for every FIFO whose numbers are in range, that is for every legal place, position and count
abbrev pub EveryPlace : Type 0
EveryPlace = (f : Fifo) → in_range f ≡ true → ByRemainder f

-- the value by the numbers alone, and the value by the held strobes too
unfoldable pub trusted : Fifo → Value
trusted f = cond (in_range f) (well (queue_of f)) ill

abbrev pub strobes_checked : Value → Value
strobes_checked ill = ill
strobes_checked (well q) = cond (legal_strbs q.held) (well q) ill

-- document 01's form (refusal 6) is kept exactly when this is not `ill`
unfoldable pub value : Fifo → Value
value f = strobes_checked (trusted f)
