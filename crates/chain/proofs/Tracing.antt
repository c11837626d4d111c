-- A run over a trace: after `i` cycles the line is where the first `i` of them lead, and the outputs hold what they write,
-- then what stood there. One turn, over plain values. Assumes nothing.
use mathlib.Core.Path.{◌≡◌, refl, sym, ap, ◌∙◌}
use mathlib.Core.Bool.{Bool, true}
use mathlib.Core.List.{List, [], ◌∷◌, ◌++◌, map, map-append}
use Prim.Native.Nat.{ℕ, zero, suc, ◌+◌, ◌<◌}
use native.Mathlib.Omega.{arith}
use native.Mathlib.Numerals.{add-one}
use lib.ListN.{length, set, take, drop, length-map}
use lib.Seq.{take_all, length-take-le}
use Rattle.signals.specs.declared.Payload.{Payload}
use Rattle.signals.specs.Stream.{Sample}
use Rattle.signals.proofs.Writing.{writes_one}
use Rattle.fifo.specs.Queue.{Queue, is_any, shown_as}
use Rattle.chain.specs.Cycles.{Cycle, shown_in, after, after_all, outlet_in, outlet_trace}
use Rattle.chain.specs.Calls.{Value, well, is_well, queues, byte_of, recorded, control_byte, data_word}
use Rattle.chain.specs.Cycling.{recorded_at, Sized, Traced}
use Rattle.chain.proofs.Used.{well_row}

pub recorded_length : (cs ws ss : List ℕ) → length ws ≡ length cs → length ss ≡ length cs → length (recorded cs ws ss) ≡ length cs
recorded_length [] ws ss h k = refl
recorded_length (c ∷ cs) [] ss h k = absurd (omega arith)
recorded_length (c ∷ cs) (w ∷ ws) [] h k = absurd (omega arith)
recorded_length (c ∷ cs) (w ∷ ws) (s ∷ ss) h k = ap suc (recorded_length cs ws ss (omega arith) (omega arith))

pub recorded_next : (i : ℕ) (cs ws ss : List ℕ) → i < length cs → length ws ≡ length cs → length ss ≡ length cs
    → take (suc i) (recorded cs ws ss) ≡ take i (recorded cs ws ss) ++ (recorded_at cs ws ss i ∷ [])
recorded_next i [] ws ss b h k = absurd (omega arith)
recorded_next i (c ∷ cs) [] ss b h k = absurd (omega arith)
recorded_next i (c ∷ cs) (w ∷ ws) [] b h k = absurd (omega arith)
recorded_next zero (c ∷ cs) (w ∷ ws) (s ∷ ss) b h k = refl
recorded_next (suc i) (c ∷ cs) (w ∷ ws) (s ∷ ss) b h k =
    ap (λ (l : List Cycle). recorded_at (c ∷ cs) (w ∷ ws) (s ∷ ss) 0 ∷ l) (recorded_next i cs ws ss (omega arith) (omega arith) (omega arith))

-- one cycle more at the end
pub after_next : (qs : List Queue) (past : List Cycle) (c : Cycle) → after_all qs (past ++ (c ∷ [])) ≡ after (after_all qs past) c
after_next qs [] c = refl
after_next qs (p ∷ past) c = after_next (after qs p) past c

pub trace_next : (qs : List Queue) (past : List Cycle) (c : Cycle)
    → outlet_trace qs (past ++ (c ∷ [])) ≡ outlet_trace qs past ++ (outlet_in (after_all qs past) c ∷ [])
trace_next qs [] c = refl
trace_next qs (p ∷ past) c = ap (λ (l : List Sample). outlet_in qs p ∷ l) (trace_next (after qs p) past c)

pub trace_length : (qs : List Queue) (past : List Cycle) → length (outlet_trace qs past) ≡ length past
trace_length qs [] = refl
trace_length qs (p ∷ past) = ap suc (trace_length (after qs p) past)

-- one entry more of an output
write_next : (f : Sample → ℕ) (qs : List Queue) (past : List Cycle) (c : Cycle) (i : ℕ) (out old : List ℕ) (x : ℕ)
    → length past ≡ i → i < length old → out ≡ map f (outlet_trace qs past) ++ drop i old → x ≡ f (outlet_in (after_all qs past) c)
    → set out i x ≡ map f (outlet_trace qs (past ++ (c ∷ []))) ++ drop (i + 1) old
write_next f qs past c i out old x n h e v =
    let made = map f (outlet_trace qs past) in
    let long : length made ≡ i = length-map (outlet_trace qs past) f ∙ trace_length qs past ∙ n in
    writes_one made i old out long h e x ∙ rw (trace_next qs past c, map-append, v)

pub record Tracing (qs : List Queue) (cycles : List Cycle) (oldControls oldWords : List ℕ) (line : Value) (i : ℕ) (controls words : List ℕ) : Type 0 where
  pub at : line ≡ well (after_all qs (take i cycles))
  pub writes_controls : controls ≡ map control_byte (outlet_trace qs (take i cycles)) ++ drop i oldControls
  pub writes_words : words ≡ map data_word (outlet_trace qs (take i cycles)) ++ drop i oldWords

pub tracing_start : (line : Value) (cycles : List Cycle) (oldControls oldWords : List ℕ) → is_well line ≡ true
    → Tracing (queues line) cycles oldControls oldWords line 0 oldControls oldWords
tracing_start line cycles oldControls oldWords form = record { at = well_row line form; writes_controls = refl; writes_words = refl }

module _ (qs : List Queue) (cs ws ss oldControls oldWords : List ℕ) (line : Value) (i : ℕ) (controls words : List ℕ)
    (sized : Sized cs ws ss oldControls oldWords) (w : Tracing qs (recorded cs ws ss) oldControls oldWords line i controls words) where
  -- one turn: a cycle that leaves the line `next`, its outlet showing `valid` and `payload`
  pub tracing_on : (next : Value) (valid : Bool) (payload : Payload) (byte : ℕ) → i < length cs
      → let this = recorded_at cs ws ss i in
      next ≡ well (after (queues line) this)
      → valid ≡ is_any (shown_in (queues line) this) → payload ≡ shown_as (shown_in (queues line) this)
      → byte ≡ byte_of valid this.sink this.clear payload.strb
      → Tracing qs (recorded cs ws ss) oldControls oldWords next (i + 1) (set controls i byte) (set words i payload.«data»)
  tracing_on next valid payload byte h leads shows-valid shows-payload b =
      let past = take i (recorded cs ws ss) in
      let this = recorded_at cs ws ss i in
      let made : length past ≡ i = length-take-le i (recorded cs ws ss) (omega (arith, recorded_length cs ws ss sized.same_words sized.same_sinks)) in
      let grown : take (i + 1) (recorded cs ws ss) ≡ past ++ (this ∷ []) = rw (add-one i) (recorded_next i cs ws ss h sized.same_words sized.same_sinks) in
      let from : queues line ≡ after_all qs past = ap queues w.at in
      record {
        at = rw (grown, after_next qs past this, ← from) leads;
        writes_controls =
            rw grown (write_next control_byte qs past this i controls oldControls byte made (omega (arith, sized.room_controls)) w.writes_controls (rw (← from, b, shows-valid, shows-payload)));
        writes_words =
            rw grown (write_next data_word qs past this i words oldWords payload.«data» made (omega (arith, sized.room_words)) w.writes_words (rw (← from, shows-payload)));
      }

  pub tracing_end : i ≡ length cs → Traced qs cs ws ss oldControls oldWords controls words line
  tracing_end e =
      let cycles = recorded cs ws ss in
      let long = recorded_length cs ws ss sized.same_words sized.same_sinks in
      let all : take i cycles ≡ cycles = take_all i cycles (omega arith) in
      let made : (f : Sample → ℕ) → length (map f (outlet_trace qs cycles)) ≡ i =
      λ f. length-map (outlet_trace qs cycles) f ∙ trace_length qs cycles ∙ long ∙ sym e
      in
      record {
        next = w.at ∙ rw all;
        writes_controls = w.writes_controls ∙ rw (all, made control_byte);
        writes_words = w.writes_words ∙ rw (all, made data_word);
      }
