-- What the answers of calls show of the outlet is what the rules give, and no call is refused with 6.
-- Idea: a step shows one cycle; what a run wrote over its outputs is taken back whole, and reads as the samples that it recorded.
-- Assumes nothing.
use Prim.Native.Nat.{ℕ}
use native.Mathlib.Omega.{arith}
use mathlib.Core.Bool.{true, false≢true}
use mathlib.Core.List.{List, [], ◌∷◌, map}
use mathlib.Core.Logic.{⊎_elim}
use mathlib.Core.Option.{Option, none, some}
use mathlib.Core.Path.{◌≡◌, refl, ◌∙◌, ap₂}
use lib.Dec.{eqb}
use lib.ListN.{length, take, drop, length-map}
use lib.Seq.{take_at}
use borrow.Author.Tests.{eqb-true, not-false}
use Rattle.signals.specs.Stream.{Sample}
use Rattle.signals.specs.Tables.{Row, first_applying}
use Rattle.signals.proofs.Bools.{either, both, clash}
use Rattle.signals.proofs.Tables.{none_keeps}
use Rattle.fifo.specs.Queue.{Queue}
use Rattle.chain.specs.Cycles.{outlet_trace}
use Rattle.chain.specs.Calls.{Call, step, run, well, step_grounds, run_grounds, grounds, recorded, control_byte, data_word, written_over, answer, answer_by}
use Rattle.chain.proofs.Tracing.{recorded_length, trace_length}
use Rattle.demand3.specs.Demand3.{cycles_by, read_back, outlet_of, refusal_in}
use Rattle.demand3.proofs.Bytes.{sample_reads}

-- What was written of a trace, read again.
trace_reads : (trace : List Sample) → read_back (map control_byte trace) (map data_word trace) ≡ trace
trace_reads [] = refl
trace_reads (s ∷ ss) = ap₂ (λ x y. x ∷ y) (sample_reads s) (trace_reads ss)

written_taken : (new old : List ℕ) (n : ℕ) → length new ≡ n → take n (written_over new old) ≡ new
written_taken new old n h = take_at new (drop (length new) old) n h

-- by the refusal
outlet_by : (qs : List Queue) (call : Call) (o : Option ℕ) → first_applying (grounds true call) ≡ o →
    outlet_of call (answer_by o (well qs) call) ≡ outlet_trace qs (cycles_by o call)
outlet_by qs (step valid payload sink clear) none e = refl
outlet_by qs (step valid payload sink clear) (some number) e = refl
outlet_by qs (run controls words sinks out_controls out_words) none e =
    ap₂ read_back
    (written_taken (map control_byte trace) out_controls (length controls) (length-map trace control_byte ∙ long))
    (written_taken (map data_word trace) out_words (length controls) (length-map trace data_word ∙ long))
    ∙ trace_reads trace
  where
    trace : List Sample
    trace = outlet_trace qs (recorded controls words sinks)

    -- a run that is not refused was lent sequences of one length
    same : (eqb (length words) (length controls) ≡ true) × (eqb (length sinks) (length controls) ≡ true)
    same = both _ _ (not-false _ (none_keeps (run_grounds true controls words sinks out_controls out_words) e).0)

    long : length trace ≡ length controls
    long =
        trace_length qs (recorded controls words sinks)
        ∙ recorded_length controls words sinks (eqb-true _ _ same.0) (eqb-true _ _ same.1)
outlet_by qs (run controls words sinks out_controls out_words) (some number) e = refl

pub answer_shows_outlet : (qs : List Queue) (call : Call) →
    outlet_of call (answer (well qs) call) ≡ outlet_trace qs (cycles_by (first_applying (grounds true call)) call)
answer_shows_outlet qs call = outlet_by qs call (first_applying (grounds true call)) refl

-- the refusal answered is the one that is given
refusal_by : (qs : List Queue) (call : Call) (o : Option ℕ) → refusal_in call (answer_by o (well qs) call) ≡ o
refusal_by qs (step valid payload sink clear) none = refl
refusal_by qs (step valid payload sink clear) (some number) = refl
refusal_by qs (run controls words sinks out_controls out_words) none = refl
refusal_by qs (run controls words sinks out_controls out_words) (some number) = refl

pub answer_refusal : (qs : List Queue) (call : Call) → refusal_in call (answer (well qs) call) ≡ first_applying (grounds true call)
answer_refusal qs call = refusal_by qs call (first_applying (grounds true call))

-- Not 6: no row that applies to a line of its form has that number.
abbrev Not6 : List (Row ℕ) → Type 0
Not6 [] = Unit {0}
Not6 (row ∷ rows) = (row.applies ≡ true → row.name ≡ 6 → ⊥) × Not6 rows

first_not6 : (rows : List (Row ℕ)) → Not6 rows → first_applying rows ≡ some 6 → ⊥
first_not6 [] k e = clash cc
first_not6 (row ∷ rows) k e =
    ⊎_elim (λ t. k.0 t (let h = rw t at e in cc)) (λ f. first_not6 rows k.1 (rw f at e)) (either row.applies)

pub grounds_not6 : (call : Call) → first_applying (grounds true call) ≡ some 6 → ⊥
grounds_not6 (step valid payload sink clear) =
    first_not6 (step_grounds true payload) (λ t _. false≢true t, (λ _ n. omega arith, tt))
grounds_not6 (run controls words sinks out_controls out_words) =
    first_not6 (run_grounds true controls words sinks out_controls out_words) (
      λ _ n. omega arith,
      (λ _ n. omega arith, (λ t _. false≢true t, (λ _ n. omega arith, (λ _ n. omega arith, tt)))),
    )
