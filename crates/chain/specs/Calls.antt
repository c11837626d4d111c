-- Document 01, "The stage and the line" and "Refusal numbers", with requests T-08 and T-09: the calls on a line, why each is refused,
-- and what each answers. Assumes nothing.
use Rattle.std.specs.Prelude.{ℕ, ◌+◌, ◌*◌, Bool, true, false, cond, not, ◌&&◌, ◌||◌, List, [], ◌∷◌, ◌++◌, map, length, drop, eqb, ltb}
use Rattle.std.proofs.Math.Option.{Option, none, some}
use Rattle.signals.specs.declared.Payload.{Payload}
use Rattle.signals.specs.Refusals.{accepts, max_cycles, any_of}
use Rattle.signals.specs.Payloads.{zeros, legal_strb}
use Rattle.signals.specs.Stream.{Sample, sample, reserved_bit}
use Rattle.signals.specs.Tables.{Row, ◌⇐◌, first_applying}
use Rattle.fifo.specs.declared.Place.{Place}
use Rattle.fifo.specs.Queue.{Queue, empty, plain, legal_place}
use Rattle.places.specs.Listing.{legal_count}
use Rattle.chain.specs.Cycles.{Cycle, ready_in, outlet_in, outlet_trace, after_all}

-- A line's value: its FIFOs' values, the mouth's first; or nothing, its form being broken.
pub data Value : Type 0 where
  ill : Value
  well : List Queue → Value

abbrev pub is_well : Value → Bool
is_well ill = false
is_well (well qs) = true

abbrev pub queues : Value → List Queue
queues ill = []
queues (well qs) = qs

-- the grounds for refusing a new line, in the order in which they are tried
abbrev pub new_grounds : (places : List Place) → List (Row ℕ)
new_grounds places =
    5 ⇐ not (legal_count (length places))
    ∷ 4 ⇐ any_of (λ place. not (legal_place place)) places
    ∷ []

-- it is empty; refused, it is one empty plain FIFO of depth 2
abbrev pub new_line : (places : List Place) → List Queue
new_line places = cond (accepts (first_applying (new_grounds places))) (map empty places) (empty (plain 2) ∷ [])

-- A step with its arguments, or a run with its lent sequences and what its two lent outputs hold.
pub data Call : Type 0 where
  step : (valid : Bool) (payload : Payload) (sink clear : Bool) → Call
  run : (controls words sinks out_controls out_words : List ℕ) → Call

-- the grounds for refusing a step, and those for a run, in the order in which they are tried; `form`: the line has its form
abbrev pub step_grounds : (form : Bool) → Payload → List (Row ℕ)
step_grounds form payload = 6 ⇐ not form ∷ 2 ⇐ not (legal_strb payload) ∷ []

abbrev pub run_grounds : (form : Bool) → (controls words sinks out_controls out_words : List ℕ) → List (Row ℕ)
run_grounds form controls words sinks out_controls out_words =
    1 ⇐ not (eqb (length words) (length controls) && eqb (length sinks) (length controls))
    ∷ 3 ⇐ ltb max_cycles (length controls)
    ∷ 6 ⇐ not form
    ∷ 2 ⇐ (any_of reserved_bit controls || any_of (λ s. ltb 1 s) sinks)
    ∷ 7 ⇐ (ltb (length out_controls) (length controls) || ltb (length out_words) (length controls))
    ∷ []

abbrev pub grounds : (form : Bool) → Call → List (Row ℕ)
grounds form (step valid payload sink clear) = step_grounds form payload
grounds form (run controls words sinks out_controls out_words) = run_grounds form controls words sinks out_controls out_words

-- a run's offers with their clears, and its sink's readies, cycle by cycle; the offer's ready bits are not read
abbrev pub recorded : (controls words sinks : List ℕ) → List Cycle
recorded [] words sinks = []
recorded (c ∷ cs) [] sinks = []
recorded (c ∷ cs) (w ∷ ws) [] = []
recorded (c ∷ cs) (w ∷ ws) (s ∷ ss) =
    record { valid = (sample c w).valid; payload = (sample c w).payload; sink = eqb s 1; clear = (sample c w).clear } ∷ recorded cs ws ss

-- the cycles of a call that is not refused: a step is one, a run as many as its trace has
abbrev pub asked : Call → List Cycle
asked (step valid payload sink clear) = record { valid = valid; payload = payload; sink = sink; clear = clear } ∷ []
asked (run controls words sinks out_controls out_words) = recorded controls words sinks

-- a control byte by its fields: bit 3 is 0
abbrev pub bit : Bool → ℕ
bit b = cond b 1 0

abbrev pub byte_of : (valid ready clear : Bool) (strb : ℕ) → ℕ
byte_of valid ready clear strb = bit valid + 2 * bit ready + 4 * bit clear + 16 * strb

-- the outlet's trace as a run writes it
abbrev pub control_byte : Sample → ℕ
control_byte s = byte_of s.valid s.ready s.clear s.payload.strb

abbrev pub data_word : Sample → ℕ
data_word s = s.payload.«data»

-- entries past those written keep what they had
abbrev pub written_over : (new old : List ℕ) → List ℕ
written_over new old = new ++ drop (length new) old

-- What a step answers; what a run answers, with what its outputs hold afterwards. A refusal is told by its number.
pub record Stepping : Type 0 where
  pub refusal : Option ℕ
  pub ready : Bool
  pub valid : Bool
  pub payload : Payload

pub record Running : Type 0 where
  pub refusal : Option ℕ
  pub out_controls : List ℕ
  pub out_words : List ℕ

abbrev pub Answer : Call → Type 0
Answer (step valid payload sink clear) = Stepping
Answer (run controls words sinks out_controls out_words) = Running

-- the rules' answer, from the lists at the call's start
abbrev pub accepted : List Queue → (call : Call) → Answer call
accepted qs (step valid payload sink clear) =
    let c : Cycle = record { valid = valid; payload = payload; sink = sink; clear = clear } in
    record {
      refusal = none;
      ready = ready_in qs c;
      valid = (outlet_in qs c).valid;
      payload = (outlet_in qs c).payload;
    }
accepted qs (run controls words sinks out_controls out_words) =
    let trace : List Sample = outlet_trace qs (recorded controls words sinks) in
    record {
      refusal = none;
      out_controls = written_over (map control_byte trace) out_controls;
      out_words = written_over (map data_word trace) out_words;
    }

-- a refused call's: everything shown is 0, and nothing is written
abbrev pub refused : (number : ℕ) → (call : Call) → Answer call
refused number (step valid payload sink clear) =
    record { refusal = some number; ready = false; valid = false; payload = zeros }
refused number (run controls words sinks out_controls out_words) =
    record { refusal = some number; out_controls = out_controls; out_words = out_words }

-- what a call answers to a line of any value, and the value that it gives back
abbrev pub answer_by : (refusal : Option ℕ) → Value → (call : Call) → Answer call
answer_by none v call = accepted (queues v) call
answer_by (some number) v call = refused number call

abbrev pub answer : Value → (call : Call) → Answer call
answer v call = answer_by (first_applying (grounds (is_well v) call)) v call

abbrev pub back_by : (refusal : Option ℕ) → Value → Call → Value
back_by none v call = well (after_all (queues v) (asked call))
back_by (some number) v call = v

abbrev pub back : Value → Call → Value
back v call = back_by (first_applying (grounds (is_well v) call)) v call
