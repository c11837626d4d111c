-- Document 01, "The stage and the line" and "Refusal numbers", with request T-08: a FIFO's value, its rule of one cycle, and what is
-- refused. A FIFO is document 01's stage. Assumes nothing.
use Rattle.std.specs.Prelude.{ℕ, ◌-◌, ◌%◌, Bool, true, false, cond, not, ◌&&◌, List, [], ◌∷◌, ◌++◌, length, eqb, leb, ltb}
use Rattle.std.proofs.Math.Option.{Option, none, some}
use Rattle.signals.specs.declared.Payload.{Payload}
use Rattle.signals.specs.Payloads.{zeros, legal_strb}
use Rattle.signals.specs.Refusals.{accepts}
use Rattle.signals.specs.Tables.{Row, ◌⇐◌, first_applying}
use Rattle.fifo.specs.declared.Place.{Place}

-- A place in a chain: the depth of the FIFO there, and its kind, plain or early-stall.
abbrev pub plain : (depth : ℕ) → Place
plain depth = record { depth = depth; early_stall = false }

abbrev pub early_stall_place : (depth : ℕ) → Place
early_stall_place depth = record { depth = depth; early_stall = true }

-- the most that the FIFO holds: its depth, or one less where it is early-stall
abbrev pub capacity : Place → ℕ
capacity place = cond place.early_stall (place.depth - 1) place.depth

-- even, 2 to 64; 4 to 64 where it is early-stall
abbrev pub max_depth : ℕ
max_depth = 64

abbrev pub min_depth : Place → ℕ
min_depth place = cond place.early_stall 4 2

abbrev pub legal_place : Place → Bool
legal_place place = leb (min_depth place) place.depth && (leb place.depth max_depth && eqb (place.depth % 2) 0)

-- A FIFO's value: its place, and the payloads that it holds, the oldest first.
pub record Queue : Type 0 where
  pub place : Place
  pub held : List Payload

abbrev pub empty : Place → Queue
empty place = record { place = place; held = [] }

abbrev pub emptied : Queue → Queue
emptied q = empty q.place

-- A list of at most one payload is what one cycle offers, shows, accepts or delivers.
abbrev pub when : Bool → List Payload → List Payload
when b ps = cond b ps []

abbrev pub oldest : List Payload → List Payload
oldest [] = []
oldest (p ∷ ps) = p ∷ []

abbrev pub rest : List Payload → List Payload
rest [] = []
rest (p ∷ ps) = ps

abbrev pub is_any : List Payload → Bool
is_any [] = false
is_any (p ∷ ps) = true

-- data and strb as shown: 0 when nothing is
abbrev pub shown_as : List Payload → Payload
shown_as [] = zeros
shown_as (p ∷ ps) = p

-- ready to the source: fewer than its capacity are held
abbrev pub ready : Queue → Bool
ready q = ltb (length q.held) (capacity q.place)

-- shown to the sink: the oldest
abbrev pub shown : Queue → List Payload
shown q = oldest q.held

-- a payload offered while ready is 1 joins at the end; the oldest leaves when the sink's ready is 1
abbrev pub next : Queue → List Payload → Bool → Queue
next q offer sink =
    record { place = q.place; held = cond sink (rest q.held) q.held ++ when (ready q) offer }

-- What a FIFO that is handed in stands for: a queue, or nothing, its form being broken.
pub data Value : Type 0 where
  ill : Value
  well : Queue → Value

abbrev pub is_well : Value → Bool
is_well ill = false
is_well (well q) = true

abbrev pub ready_of : Value → Bool
ready_of ill = false
ready_of (well q) = ready q

-- the queue that it stands for; nothing is held where there is none
abbrev pub queue_in : Value → Queue
queue_in ill = empty (plain 0)
queue_in (well q) = q

-- What a step answers, the number of its refusal if it is refused, and the value of the FIFO that it hands back.
pub record Answer : Type 0 where
  pub refusal : Option ℕ
  pub ready : Bool
  pub valid : Bool
  pub payload : Payload
  pub next : Value

abbrev pub refused : (number : ℕ) → Value → Answer
refused number v = record { refusal = some number; ready = false; valid = false; payload = zeros; next = v }

-- one cycle with no clear, one with, and either
abbrev pub cycled : Queue → List Payload → Bool → Answer
cycled q offer sink =
    record {
      refusal = none;
      ready = ready q;
      valid = is_any (shown q);
      payload = shown_as (shown q);
      next = well (next q offer sink);
    }

abbrev pub cleared : Queue → Answer
cleared q = record { refusal = none; ready = false; valid = false; payload = zeros; next = well (emptied q) }

abbrev pub cycle_of : Queue → (offer : List Payload) → (sink clear : Bool) → Answer
cycle_of q offer sink clear = cond clear (cleared q) (cycled q offer sink)

-- the grounds for refusing a step, in the order in which they are tried
abbrev pub step_grounds : Value → Payload → List (Row ℕ)
step_grounds v p = 6 ⇐ not (is_well v) ∷ 2 ⇐ not (legal_strb p) ∷ []

-- a step of any FIFO: refused with a number, or else the cycle
abbrev pub step_by : (refusal : Option ℕ) → Value → (valid : Bool) → Payload → (sink clear : Bool) → Answer
step_by (some number) v valid p sink clear = refused number v
step_by none v valid p sink clear = cycle_of (queue_in v) (when valid (p ∷ [])) sink clear

unfoldable pub step_of : Value → (valid : Bool) → Payload → (sink clear : Bool) → Answer
step_of v valid p sink clear = step_by (first_applying (step_grounds v p)) v valid p sink clear

-- the ground for refusing a new FIFO
abbrev pub new_grounds : Place → List (Row ℕ)
new_grounds place = 4 ⇐ not (legal_place place) ∷ []

-- what is handed back: empty, and plain of depth 2 where refused
abbrev pub new_queue : Place → Queue
new_queue place = empty (cond (accepts (first_applying (new_grounds place))) place (plain 2))

-- each strobe is at most 15
unfoldable pub legal_strbs : List Payload → Bool
legal_strbs [] = true
legal_strbs (p ∷ ps) = legal_strb p && legal_strbs ps
