-- A burst judged from the checker's watch gives the record that the rules give: while nothing is found it is the record of the watch
-- (`kept`), and from the breach on only the cycles grow. By induction over the cycles. Assumes nothing.
use Prim.Native.Nat.{ℕ, zero, suc, ◌+◌, ◌*◌}
use native.Mathlib.Nat.{add-zero}
use native.Mathlib.Omega.{arith}
use mathlib.Core.Bool.{Bool, true, false, cond, not, ◌&&◌}
use mathlib.Core.List.{List}
use mathlib.Core.Option.{Option, none, some}
use mathlib.Core.Path.{◌≡◌, refl, sym, ◌∙◌, ap}
use lib.ListN.{get_or}
use Rattle.std.specs.Prelude as std
use Rattle.std.specs.Prelude.{Some, None, is_some, unwrap_or}
use Rattle.signals.specs.Judging.{Finding, clean, broken, found, count_below, finding_below}
use Rattle.signals.specs.Payloads.{zeros, same_payload}
use Rattle.signals.specs.Stream.{Sample, sample, sample_at, clear_cycle, handshake}
use Rattle.signals.specs.Tables.{Row, first_applying}
use Rattle.signals.specs.Written.{RuleName}
use Rattle.signals.specs.declared.Payload.{Payload}
use Rattle.stream_checker.specs.Rules.{stalled, counter, after_counter, carries_counter}
use Rattle.stream_checker.specs.Step.{before, rules_after, next, watch_after, rules_from}
use Rattle.stream_checker.specs.Verdicts.{handshake_at, clear_at}
use Rattle.stream_checker.specs.declared.watch.Watch.{Watch}
use Rattle.monitor.specs.declared.Monitor.{Monitor}
use Rattle.monitor.specs.Cycle.{rules_next, passed, judged_next, one_more, after_cycles}
use Rattle.monitor.specs.Step.{watch_of, clean_with, kept, broken_in, with_cycles}
use Rattle.monitor.proofs.Legal.{Clean}
use Rattle.monitor.proofs.Stall.{stall_sample}

-- a record's flag is the stall itself, and its payload is looked at only there
held_alike : (s valid : Bool) → (s && true) && not valid ≡ s && not valid
held_alike true valid = refl
held_alike false valid = refl

stable_alike :
    (s valid : Bool) (p q : Payload) → (s && true) && (valid && not (same_payload q (cond s p zeros))) ≡ s && (valid && not (same_payload q p))
stable_alike true valid p q = refl
stable_alike false valid p q = refl

-- and the counter due only where one is kept
due_alike : (due : std.Option ℕ) → cond (is_some due) (Some (unwrap_or due 0)) None ≡ due
due_alike None = refl
due_alike (Some due) = refl

-- a counter is kept after a cycle, and due, in a record as in a watch
counted_alike :
    (clear carries : Bool) (next : ℕ) (due : std.Option ℕ) →
    cond clear false (cond carries true (is_some due)) ≡ is_some (cond clear None (cond carries (Some next) due))
counted_alike true carries next due = refl
counted_alike false true next due = refl
counted_alike false false next due = refl

due_next_alike :
    (clear carries : Bool) (next : ℕ) (due : std.Option ℕ) →
    cond clear 0 (cond carries next (unwrap_or due 0)) ≡ unwrap_or (cond clear None (cond carries (Some next) due)) 0
due_next_alike true carries next due = refl
due_next_alike false true next due = refl
due_next_alike false false next due = refl

-- one step of a watch, as its record takes it
module _ (seq_on : Bool) (cycles handshakes clears : ℕ) (w : Watch) where
  rules_alike : (now : Sample) → rules_next (kept seq_on cycles handshakes clears w) now ≡ rules_after w now seq_on
  rules_alike now =
      let s = stalled (before w) in rw (held_alike s now.valid, stable_alike s now.valid (before w).payload now.payload, due_alike w.due)

  passed_alike :
      (control word : ℕ) →
      let now = sample control word in
      passed (kept seq_on cycles handshakes clears w) now
      ≡ kept seq_on (cycles + 1) (handshakes + cond (handshake now) 1 0) (clears + cond (clear_cycle now) 1 0) (next seq_on w control word)
  passed_alike control word =
      let now = sample control word in
      let carries = seq_on && carries_counter now in
      λ i. clean_with seq_on (cycles + 1) (handshakes + cond (handshake now) 1 0) (clears + cond (clear_cycle now) 1 0)
      (stalled now)
      (cond (stalled now) now.payload zeros)
      (counted_alike (clear_cycle now) carries (after_counter (counter now)) w.due i)
      (due_next_alike (clear_cycle now) carries (after_counter (counter now)) w.due i)

-- the last cycle, taken from a record and put back
module _ (p : Payload) where
  abbrev taken_from : (s : Bool) → Sample
  taken_from s = sample (cond s (1 + 16 * p.strb) 0) p.«data»

  stall_back : (s : Bool) → stalled (taken_from s) ≡ s
  stall_back true = ap stalled (stall_sample p)
  stall_back false = refl

  payload_back : (s : Bool) → (s ≡ false → p ≡ zeros) → cond (stalled (taken_from s)) (taken_from s).payload zeros ≡ p
  payload_back true z = ap (λ (t : Sample). cond (stalled t) t.payload zeros) (stall_sample p)
  payload_back false z = sym (z refl)

-- and the counter that is due
counted_back : (counted : Bool) (due : ℕ) → is_some (cond counted (Some due) None) ≡ counted
counted_back true due = refl
counted_back false due = refl

due_back : (counted : Bool) (due : ℕ) → (counted ≡ false → due ≡ 0) → unwrap_or (cond counted (Some due) None) 0 ≡ due
due_back true due z = refl
due_back false due z = sym (z refl)

-- the record of the watch that a clean record gives is that record
kept_back : (m : Monitor) → Clean m → kept m.seq m.cycles m.handshakes m.clears (watch_of m) ≡ m
kept_back m c =
    λ i. record {
      seq = m.seq;
      cycles = m.cycles;
      verdict = sym c.verdict i;
      rule = sym c.rule i;
      cycle = sym c.cycle i;
      handshakes = m.handshakes;
      clears = m.clears;
      stalled = stall_back m.payload m.stalled i;
      payload = payload_back m.payload m.stalled c.unstalled i;
      counted = counted_back m.counted m.due i;
      due = due_back m.counted m.due c.uncounted i;
    }

module _ (m : Monitor) (controls words : List ℕ) where
  abbrev trace : ℕ → Sample
  trace = sample_at controls words

  abbrev rules : ℕ → List (Row RuleName)
  rules = rules_from (watch_of m) controls words m.seq

  -- the counts after n cycles in which nothing is found
  abbrev handshakes_in : ℕ → ℕ
  handshakes_in n = m.handshakes + count_below (handshake_at trace) n

  abbrev clears_in : ℕ → ℕ
  clears_in n = m.clears + count_below (clear_at trace) n

  -- the watch after them, and the record that is kept of it
  abbrev watch_in : ℕ → Watch
  watch_in n = watch_after m.seq (watch_of m) controls words n

  abbrev kept_in : ℕ → Monitor
  kept_in n = kept m.seq (m.cycles + n) (handshakes_in n) (clears_in n) (watch_in n)

  -- the record after n cycles, by what is found in them
  abbrev pub Stands : ℕ → Finding RuleName → Monitor → Type 0
  Stands n clean r = r ≡ kept_in n
  Stands n (broken rule c) r = r ≡ broken_in m (m.cycles + n) (handshakes_in c) (clears_in c) rule c

  -- one cycle more is seen, and added to a count if it is one of those
  seen_more : (n : ℕ) → m.cycles + n + 1 ≡ m.cycles + suc n
  seen_more n = omega arith

  counted_more : (has : ℕ → Bool) (before n : ℕ) → before + count_below has n + cond (has n) 1 0 ≡ before + count_below has (suc n)
  counted_more has before n = omega arith

  -- the next cycle of the clean record is judged by what the watch finds
  judged_in : (n : ℕ) (o : Option RuleName) (r : Monitor) → first_applying (rules n) ≡ o → r ≡ kept_in n → one_more r (trace n) ≡ judged_next (kept_in n) (trace n) o
  judged_in n o r e s =
      rw (s, rules_alike m.seq (m.cycles + n) (handshakes_in n) (clears_in n) (watch_in n) (trace n), e)

  stands_next : (n : ℕ) (f : Finding RuleName) (o : Option RuleName) (r : Monitor) → first_applying (rules n) ≡ o → Stands n f r → Stands (suc n) (found f o n) (one_more r (trace n))
  stands_next n clean none r e s =
      judged_in n none r e s
      ∙ passed_alike m.seq (m.cycles + n) (handshakes_in n) (clears_in n) (watch_in n) (get_or controls n 0) (get_or words n 0)
      ∙ (λ i. kept m.seq (seen_more n i) (counted_more (handshake_at trace) m.handshakes n i) (counted_more (clear_at trace) m.clears n i)
      (watch_in (suc n)))
  stands_next n clean (some rule) r e s = rw (judged_in n (some rule) r e s, seen_more n)
  stands_next n (broken rule c) o r e s = rw (s, seen_more n)

  pub stands : Clean m → (n : ℕ) → Stands n (finding_below rules n) (after_cycles m trace n)
  stands c zero = sym (rw (add-zero m.cycles, add-zero m.handshakes, add-zero m.clears) (kept_back m c))
  stands c (suc n) = stands_next n (finding_below rules n) (first_applying (rules n)) (after_cycles m trace n) refl (stands c n)

  -- a record that is broken stays so, and only the cycles grow
  pub stays : m.verdict ≡ 2 → (n : ℕ) → after_cycles m trace n ≡ with_cycles m (m.cycles + n)
  stays e zero = ap (with_cycles m) (sym (add-zero m.cycles))
  stays e (suc n) = rw (stays e n, e, seen_more n)
