-- What the checker's loop sees of a burst, put back into the record, is the record that the rules give: by `stands`, with what is found.
-- Assumes nothing.
use Prim.Native.Nat.{ℕ, ◌+◌}
use mathlib.Core.Bool.{true}
use mathlib.Core.List.{List}
use mathlib.Core.Logic.{⊎_elim}
use mathlib.Core.Path.{◌≡◌, sym, ◌∙◌, ap}
use lib.ListN.{length}
use Rattle.std.specs.Prelude.{Option, Some, None, is_some}
use Rattle.signals.specs.Judging.{Finding, clean, broken, count_below, finding_below, cycles_counted}
use Rattle.signals.specs.Stream.{sample_at}
use Rattle.signals.specs.Written.{RuleName}
use Rattle.stream_checker.specs.Rules.{stalled}
use Rattle.stream_checker.specs.Step.{common_length, before, watch_after, rules_from, sight_below, finding_of, sight_of}
use Rattle.stream_checker.specs.Step.Sight.{finding, handshakes, clears, watch}
use Rattle.stream_checker.specs.Verdicts.{handshake_at, clear_at}
use Rattle.stream_checker.specs.Written.{rule_name}
use Rattle.stream_checker.specs.declared.Rule.{Rule}
use Rattle.stream_checker.specs.declared.Seen.{Seen}
use Rattle.stream_checker.specs.declared.watch.Watch.{Watch}
use Rattle.stream_checker.proofs.Judged.{sees_all}
use Rattle.monitor.specs.declared.Monitor.{Monitor}
use Rattle.monitor.specs.Cycle.{after_cycles}
use Rattle.monitor.specs.Record.{legal}
use Rattle.monitor.specs.Step.{watch_of, payload_kept, due_kept, broken_in, with_last, with_breach}
use Rattle.monitor.proofs.Following.{Stands, stands}
use Rattle.monitor.proofs.Legal.{Clean, legal_says}

-- a legal record is clean where its verdict does not say that it is broken
pub legal_clean : (m : Monitor) → legal m ≡ true → (m.verdict ≡ 2 → ⊥) → Clean m
legal_clean m e q = ⊎_elim (λ c. c) (λ b. absurd (q b.verdict)) (legal_says m e)

module _ {m : Monitor} (c : Clean m) (seen : Seen) {w : Watch} (is-watch : w ≡ watch_of m)
    (controls words : List ℕ) (same : length controls ≡ length words)
    (sees : sight_of seen ≡ sight_below w controls words m.seq (common_length controls words)) where
  sees_from : sight_of seen ≡ sight_below (watch_of m) controls words m.seq (length controls)
  sees_from = rw (← is-watch) (sees_all seen w controls words m.seq same sees)

  -- what is found, and the counts and the watch before it
  record Told (f : Finding RuleName) : Type 0 where
    record_is : Stands m controls words (length controls) f (after_cycles m (sample_at controls words) (length controls))
    counted : seen.handshakes ≡ count_below (handshake_at (sample_at controls words)) (cycles_counted f (length controls))
    cleared : seen.clears ≡ count_below (clear_at (sample_at controls words)) (cycles_counted f (length controls))
    watched : seen.watch ≡ watch_after m.seq (watch_of m) controls words (cycles_counted f (length controls))

  told : (f : Finding RuleName) → finding_of seen.breach seen.cycles ≡ f → Told f
  told f e =
      let is_found : finding_below (rules_from (watch_of m) controls words m.seq) (length controls) ≡ f = sym (ap finding sees_from) ∙ e in
      record {
        record_is = rw is_found at (stands m controls words c (length controls));
        counted = rw is_found at (ap handshakes sees_from);
        cleared = rw is_found at (ap clears sees_from);
        watched = rw is_found at (ap watch sees_from);
      }

  -- the record with the burst's cycles and counts
  abbrev pub counted_in : Monitor
  counted_in =
      record m {
        cycles = m.cycles + length controls;
        handshakes = m.handshakes + seen.handshakes;
        clears = m.clears + seen.clears;
      }

  pub clean_after : seen.breach ≡ None → with_last counted_in seen.watch ≡ after_cycles m (sample_at controls words) (length controls)
  clean_after e =
      let t = told clean (ap (λ (b : Option Rule). finding_of b seen.cycles) e) in
      (λ i. record {
        seq = m.seq;
        cycles = m.cycles + length controls;
        verdict = c.verdict i;
        rule = c.rule i;
        cycle = c.cycle i;
        handshakes = m.handshakes + t.counted i;
        clears = m.clears + t.cleared i;
        stalled = stalled (before (t.watched i));
        payload = payload_kept (t.watched i);
        counted = is_some (t.watched i).due;
        due = due_kept (t.watched i);
      })
      ∙ sym t.record_is

  pub broken_after :
      (rule : Rule) → seen.breach ≡ Some rule →
      with_breach counted_in (rule_name rule) (m.cycles + seen.cycles) ≡ after_cycles m (sample_at controls words) (length controls)
  broken_after rule e =
      let t = told (broken (rule_name rule) seen.cycles) (ap (λ (b : Option Rule). finding_of b seen.cycles) e) in
      (λ i. broken_in m (m.cycles + length controls) (m.handshakes + t.counted i) (m.clears + t.cleared i) (rule_name rule) seen.cycles)
      ∙ sym t.record_is
