-- A watch follows a trace: what it keeps is what the rules ask of the cycles before, so it finds what they find.
-- Each cycle by one step of the watch; the counters by the last one carried since a clear cycle. Assumes nothing.
use Prim.Native.Nat.{ℕ, zero, suc}
use mathlib.Core.Bool.{Bool, true, false, cond}
use mathlib.Core.List.{List}
use mathlib.Core.Option.{Option, none, some}
use mathlib.Core.Path.{◌≡◌, refl}
use Rattle.std.specs.Prelude as std
use Rattle.std.specs.Prelude.{Some, None}
use Rattle.signals.specs.Stream.{Sample, sample, sample_at, clear_cycle}
use Rattle.stream_checker.specs.declared.watch.Watch.{Watch}
use Rattle.stream_checker.specs.Rules.{stalled, breaks_held, breaks_stable, between, counter, after_counter, carries_counter, last_counter, out_of_seq, breaks_seq, in_order, rules}
use Rattle.stream_checker.specs.Step.{start, before, not_due, breaks_seq_after, rules_of, rules_after, next, watch_after, rules_from}

-- s is the cycle before cycle i; before the first, one that is not stalled
abbrev Previous : (ℕ → Sample) → ℕ → Sample → Type 0
Previous trace zero s = stalled s ≡ false
Previous trace (suc c) s = s ≡ trace c

-- the counter due after the one that was carried last, if one was
abbrev due_by : Option ℕ → std.Option ℕ
due_by none = None
due_by (some n) = Some (after_counter n)

-- counters are kept where rule seq is judged
record Follows (seq_on : Bool) (trace : ℕ → Sample) (i : ℕ) (w : Watch) : Type 0 where
  previous : Previous trace i (before w)
  counters : seq_on ≡ true → w.due ≡ due_by (last_counter trace i)

due_next :
    (clear carries : Bool) (n : ℕ) (last : Option ℕ) →
    cond clear None (cond carries (Some (after_counter n)) (due_by last)) ≡ due_by (cond clear none (cond carries (some n) last))
due_next true carries n last = refl
due_next false true n last = refl
due_next false false n last = refl

due_seq : (last : Option ℕ) (n : ℕ) → not_due (due_by last) n ≡ out_of_seq last n
due_seq none n = refl
due_seq (some m) n = refl

-- rule seq counts only where it is judged
seq_judged : (seq_on held stable a b : Bool) → (seq_on ≡ true → a ≡ b) → in_order seq_on held stable a ≡ in_order seq_on held stable b
seq_judged true held stable a b h = rw (h refl)
seq_judged false held stable a b h = refl

module _ (seq_on : Bool) (trace : ℕ → Sample) where
  follows_start : Follows seq_on trace 0 start
  follows_start = record { previous = refl; counters = λ on. refl }

  follows_next : (i : ℕ) (w : Watch) (control word : ℕ) → trace i ≡ sample control word → Follows seq_on trace i w → Follows seq_on trace (suc i) (next seq_on w control word)
  follows_next i w control word e f =
      record {
        previous = rw e;
        counters = λ on.
            let now = sample control word in
            rw (e, on, f.counters on) (due_next (clear_cycle now) (carries_counter now) (counter now) (last_counter trace i));
      }

  between_same :
      (breaks : (before now : Sample) → Bool) → ((s now : Sample) → stalled s ≡ false → breaks s now ≡ false) →
      (i : ℕ) (s : Sample) → Previous trace i s → breaks s (trace i) ≡ between breaks trace i
  between_same breaks free zero s h = free s (trace zero) h
  between_same breaks free (suc c) s h = rw h

  seq_same : (i : ℕ) (w : Watch) → w.due ≡ due_by (last_counter trace i) → breaks_seq_after w (trace i) ≡ breaks_seq trace i
  seq_same i w h = rw (h, due_seq (last_counter trace i) (counter (trace i)))

  -- the watch breaks the rules that the trace breaks
  order_same :
      (i : ℕ) (w : Watch) → Follows seq_on trace i w →
      rules_of w (trace i) seq_on ≡ in_order seq_on (between breaks_held trace i) (between breaks_stable trace i) (breaks_seq trace i)
  order_same i w f =
      let held = between_same breaks_held (λ s now h. rw h) i (before w) f.previous in
      let stable = between_same breaks_stable (λ s now h. rw h) i (before w) f.previous in
      rw (held, stable) (seq_judged seq_on _ _ _ _ (λ on. seq_same i w (f.counters on)))

  rules_same : (i : ℕ) (w : Watch) → Follows seq_on trace i w → rules_after w (trace i) seq_on ≡ rules seq_on trace i
  rules_same i w f = rw (order_same i w f)

module _ (seq_on : Bool) (controls words : List ℕ) where
  -- from the start on the watch follows the trace, through every cycle
  follows : (n : ℕ) → Follows seq_on (sample_at controls words) n (watch_after seq_on start controls words n)
  follows zero = follows_start seq_on _
  follows (suc n) = follows_next seq_on _ n (watch_after seq_on start controls words n) _ _ refl (follows n)

  pub rules_from_start : (c : ℕ) → rules_from start controls words seq_on c ≡ rules seq_on (sample_at controls words) c
  rules_from_start c = rules_same seq_on _ c (watch_after seq_on start controls words c) (follows c)
