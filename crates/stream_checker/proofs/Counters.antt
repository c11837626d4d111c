-- Rule seq by index. By induction `last_counter` is the counter of the last cycle that carried one since a clear cycle (`LastSays`), and
-- there is only one such cycle. Assumes nothing.
use Prim.Native.Nat.{ℕ, zero, suc}
use native.Mathlib.Omega.{arith}
use mathlib.Core.Bool.{true, false, not, ◌&&◌, false≢true}
use mathlib.Core.Logic.{⊎_elim}
use mathlib.Core.Option.{Option, none, some}
use mathlib.Core.Path.{◌≡◌, refl, sym, ◌∙◌, ap}
use lib.Dec.{eqb}
use borrow.Author.Tests.{eqb-false, ne_eqb, not-true}
use Rattle.signals.specs.Stream.{Sample, clear_cycle}
use Rattle.signals.proofs.Bools.{either, both, not_both}
use Rattle.signals.proofs.Judging.{order_of, before_or_last}
use Rattle.stream_checker.specs.Rules.{carries_counter, counter, after_counter, last_counter, out_of_seq}
use Rattle.stream_checker.specs.Meaning.{LastCarrier, LeavesSequence, SeqByIndex}

module _ (trace : ℕ → Sample) where
  -- the last cycle before cycle c that carries a counter carries n
  record LastHas (c n : ℕ) : Type 0 where
    at : ℕ
    is_last : LastCarrier trace c at
    has : counter (trace at) ≡ n

  abbrev LastSays : ℕ → Option ℕ → Type 0
  LastSays c none = (b : ℕ) → LastCarrier trace c b → ⊥
  LastSays c (some n) = LastHas c n

  -- a cycle that carries none, and is no clear cycle, leaves what was said
  still :
      (c : ℕ) (last : Option ℕ) → clear_cycle (trace c) ≡ false → carries_counter (trace c) ≡ false → LastSays c last → LastSays (suc c) last
  still c none u f s = λ b l. s b (record {
    before = ⊎_elim (λ h. h) (λ q. absurd (not_both _ l.carries (rw q f))) (before_or_last b c l.before);
    carries = l.carries;
    later = λ a h g. l.later a h (omega arith);
    unclear = λ a h g. l.unclear a h (omega arith);
  })
  still c (some n) u f s =
      record {
        at = s.at;
        is_last =
            record {
              before = omega (arith, s.is_last.before);
              carries = s.is_last.carries;
              later = λ a h g. ⊎_elim (λ l. s.is_last.later a h l) (λ q. rw q f) (before_or_last a c g);
              unclear = λ a h g. ⊎_elim (λ l. s.is_last.unclear a h l) (λ q. rw q u) (before_or_last a c g);
            };
        has = s.has;
      }

  -- a cycle that carries one is the last
  this : (c : ℕ) → carries_counter (trace c) ≡ true → LastHas (suc c) (counter (trace c))
  this c t =
      record {
        at = c;
        is_last = record { before = omega arith; carries = t; later = λ a h g. absurd (omega arith); unclear = λ a h g. absurd (omega arith) };
        has = refl;
      }

  -- a clear cycle carries none
  clear_carries : (s : Sample) → clear_cycle s ≡ true → carries_counter s ≡ false
  clear_carries s t = rw t

  -- behind a clear cycle there is none: it carries none itself, and lies behind every other
  none_since : (c : ℕ) → clear_cycle (trace c) ≡ true → LastSays (suc c) none
  none_since c t b l =
      ⊎_elim (λ h. not_both _ t (l.unclear c h (omega arith)))
      (λ q. not_both _ l.carries (ap (λ (a : ℕ). carries_counter (trace a)) q ∙ clear_carries (trace c) t)) (before_or_last b c l.before)

  says : (c : ℕ) → LastSays c (last_counter trace c)
  says zero = λ b l. let h = l.before in omega arith
  says (suc c) =
      ⊎_elim (λ t. rw t (none_since c t)) (λ u. ⊎_elim (carried u) (skipped u (says c)) (either (carries_counter (trace c)))) (either (clear_cycle (trace c)))
    where
      carried : clear_cycle (trace c) ≡ false → carries_counter (trace c) ≡ true → LastSays (suc c) (last_counter trace (suc c))
      carried u t = rw (t, u) (this c t)

      skipped :
          clear_cycle (trace c) ≡ false → LastSays c (last_counter trace c) → carries_counter (trace c) ≡ false →
          LastSays (suc c) (last_counter trace (suc c))
      skipped u s f = rw (f, u) (still c (last_counter trace c) u f s)

  -- there is one last cycle
  last_same : (c a b : ℕ) → LastCarrier trace c a → LastCarrier trace c b → a ≡ b
  last_same c a b p q =
      ⊎_elim (λ l. absurd (not_both _ q.carries (p.later b l q.before)))
      (λ w. ⊎_elim (λ l. absurd (not_both _ p.carries (q.later a l p.before))) (λ e. e) w) (order_of a b)

  leaves : (c : ℕ) (last : Option ℕ) → LastSays c last → carries_counter (trace c) && out_of_seq last (counter (trace c)) ≡ true → LeavesSequence trace c
  leaves c none s e = absurd (false≢true (both (carries_counter (trace c)) false e).1)
  leaves c (some n) s e =
      let b = both (carries_counter (trace c)) (not (eqb (counter (trace c)) (after_counter n))) e in
      record {
        last = s.at;
        is_last = s.is_last;
        carries = b.0;
        other = λ q. eqb-false (counter (trace c)) (after_counter n) (not-true _ b.1) (q ∙ ap after_counter s.has);
      }

  left : (c : ℕ) (last : Option ℕ) → LastSays c last → LeavesSequence trace c → carries_counter (trace c) && out_of_seq last (counter (trace c)) ≡ true
  left c none s t = absurd (s t.last t.is_last)
  left c (some n) s t =
      let same = ap (λ (k : ℕ). counter (trace k)) (last_same c t.last s.at t.is_last s.is_last) in
      rw (t.carries, ne_eqb (counter (trace c)) (after_counter n) (λ q. t.other (q ∙ ap after_counter (sym s.has ∙ sym same))))

pub seq_by_index_lem : SeqByIndex
seq_by_index_lem trace c = (leaves trace c (last_counter trace c) (says trace c), left trace c (last_counter trace c) (says trace c))
