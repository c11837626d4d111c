-- What a clear cycle does to the judging. The cycle behind it has no duty and no counter before it, as a first cycle has none; from
-- there on both traces have the same cycles. Assumes nothing.
use Prim.Native.Nat.{ℕ, zero, suc, ◌+◌}
use native.Mathlib.Nat.{add-zero, add-suc}
use mathlib.Core.Bool.{Bool, true, false}
use mathlib.Core.Path.{◌≡◌}
use Rattle.signals.specs.Stream.{Sample, clear_cycle}
use Rattle.stream_checker.specs.Rules.{stalled, breaks_held, breaks_stable, between, last_counter}
use Rattle.stream_checker.specs.Meaning.{Afresh}

module _ (trace : ℕ → Sample) (c : ℕ) (clear : clear_cycle (trace c) ≡ true) where
  -- the cycles behind the clear cycle
  abbrev behind : ℕ → Sample
  behind i = trace (suc c + i)

  no_duty : stalled (trace c) ≡ false
  no_duty = rw clear

  between_afresh :
      (breaks : (before now : Sample) → Bool) → ((s now : Sample) → stalled s ≡ false → breaks s now ≡ false) →
      (k : ℕ) → between breaks trace (suc c + k) ≡ between breaks behind k
  between_afresh breaks free zero = rw (add-zero (suc c)) (free (trace c) (trace (suc c)) no_duty)
  between_afresh breaks free (suc k) = rw (add-suc (suc c) k)

  counter_afresh : (k : ℕ) → last_counter trace (suc c + k) ≡ last_counter behind k
  counter_afresh zero = rw (add-zero (suc c), clear)
  counter_afresh (suc k) = rw (add-suc (suc c) k, counter_afresh k)

pub afresh : Afresh
afresh seq_on trace c clear k =
    let held = between_afresh trace c clear breaks_held (λ s now h. rw h) k in
    let stable = between_afresh trace c clear breaks_stable (λ s now h. rw h) k in
    rw (held, stable, counter_afresh trace c clear k)
