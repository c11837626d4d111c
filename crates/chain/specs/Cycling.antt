-- What the code's own cycle does to a FIFO and to a chain, for the contracts of private functions. No promise of a public call cites this
-- file. Assumes nothing.
use Rattle.std.specs.Prelude.{true, cond, List, map, ◌≡◌, ℕ, ◌≤◌, length, get_or, eqb}
use Rattle.signals.specs.Payloads.{legal_strb}
use Rattle.signals.specs.Stream.{sample_at}
use Rattle.fifo.specs.Queue as queue
use Rattle.fifo.specs.Queue.{Queue, is_any, shown_as, cleared, cycled}
use Rattle.fifo.specs.Promises as fifo
use Rattle.chain.specs.declared.laid.Part.{Part}
use Rattle.chain.specs.Cycles.{Cycle, offered, shown_in, after, after_all, outlet_trace}
use Rattle.chain.specs.Calls.{Value, well, recorded, control_byte, data_word, written_over}

-- a FIFO that holds q hands on what it shows, and is left as the rule leaves it
pub record HandsOn (q : Queue) (c : Cycle) (after : queue.Value) (handed : Cycle) : Type 0 where
  pub valid : handed.valid ≡ (cond c.clear (cleared q) (cycled q (offered c) c.sink)).valid
  pub payload : handed.payload ≡ (cond c.clear (cleared q) (cycled q (offered c) c.sink)).payload
  pub clear : handed.clear ≡ c.clear
  pub legal : legal_strb handed.payload ≡ true
  pub next : after ≡ (cond c.clear (cleared q) (cycled q (offered c) c.sink)).next

-- a cycle from the lists qs on, part by part
pub record Shows (qs : List Queue) (c : Cycle) (back : Value) (shown : Cycle) : Type 0 where
  pub valid : shown.valid ≡ is_any (shown_in qs c)
  pub payload : shown.payload ≡ shown_as (shown_in qs c)
  pub sink : shown.sink ≡ c.sink
  pub clear : shown.clear ≡ c.clear
  pub legal : legal_strb shown.payload ≡ true
  pub next : back ≡ well (after qs c)

-- the value of a FIFO in a part
abbrev pub part_value : Part → queue.Value
part_value part = fifo.value_in part.pointers part.words part.strbs

-- the cycle that entries i record
abbrev pub recorded_at : (controls words sinks : List ℕ) → (i : ℕ) → Cycle
recorded_at controls words sinks i =
    let s = sample_at controls words i in record { valid = s.valid; payload = s.payload; sink = eqb (get_or sinks i 0) 1; clear = s.clear }

-- lengths of a run that is not refused
pub record Sized (controls words sinks out_controls out_words : List ℕ) : Type 0 where
  pub same_words : length words ≡ length controls
  pub same_sinks : length sinks ≡ length controls
  pub room_controls : length controls ≤ length out_controls
  pub room_words : length controls ≤ length out_words

-- a run's cycles from the lists qs on: the line after them, and the outlet's trace in the outputs
pub record Traced (qs : List Queue) (controls words sinks out_controls out_words : List ℕ) (exitControls exitWords : List ℕ) (back : Value) : Type 0 where
  pub next : back ≡ well (after_all qs (recorded controls words sinks))
  pub writes_controls : exitControls ≡ written_over (map control_byte (outlet_trace qs (recorded controls words sinks))) out_controls
  pub writes_words : exitWords ≡ written_over (map data_word (outlet_trace qs (recorded controls words sinks))) out_words
