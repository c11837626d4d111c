-- What the loop answers: at its first breach, and at its end, the sight of all the cycles; and from the start on, the verdict of the trace.
-- Assumes nothing.
use Prim.Native.Nat.{ℕ, zero, suc, ◌+◌, ◌<◌, ◌≤◌}
use native.Mathlib.Omega.{arith}
use native.Mathlib.Nat.{add-zero}
use native.Mathlib.Numerals.{add-one}
use mathlib.Core.Bool.{Bool, true, false, cond}
use mathlib.Core.List.{List}
use mathlib.Core.Option.{Option, none, some}
use mathlib.Core.Path.{◌≡◌, refl, sym, ◌∙◌, ap, subst}
use lib.ListN.{length, get_or}
use Rattle.std.specs.Prelude as std
use Rattle.std.specs.Prelude.{Some}
use Rattle.signals.specs.Judging.{Finding, clean, broken, count_below, finding_below, cycles_counted}
use Rattle.signals.specs.Stream.{sample_at}
use Rattle.signals.specs.Tables.{Row, first_applying}
use Rattle.signals.specs.Written.{RuleName, judged}
use Rattle.signals.proofs.Judging.{judges, stops, goes_on, count_le}
use Rattle.stream_checker.specs.declared.Rule.{Rule}
use Rattle.stream_checker.specs.declared.Seen.{Seen}
use Rattle.stream_checker.specs.declared.watch.Watch.{Watch}
use Rattle.stream_checker.specs.Rules.{rules}
use Rattle.stream_checker.specs.Verdicts.{handshake_at, clear_at, Answer, answer_below}
use Rattle.stream_checker.specs.Step.{common_length, start, rules_of, next, rules_from, Sight, sight_below, finding_of, sight_of, SoFar, LeadsBy, Leads}
use Rattle.stream_checker.specs.Step.Sight.{finding, cycles, handshakes, clears}
use Rattle.stream_checker.specs.Written.{rule_name}
use Rattle.stream_checker.proofs.Follows.{rules_from_start}

-- cycle i is no clear cycle, and nothing is found before it
module _ {w : Watch} {controls words : List ℕ} {seq_on : Bool} {i handshakes clears : ℕ} {after : Watch}
    (so_far : SoFar w controls words seq_on i handshakes clears after) (unclear : clear_at (sample_at controls words) i ≡ false) where
  -- what the watch finds in it is what the rules say
  found_there :
      (r : Option RuleName) → r ≡ first_applying (rules_of after (sample_at controls words i) seq_on) →
      first_applying (rules_from w controls words seq_on i) ≡ r
  found_there r e = rw (← so_far.watched, unclear) (rw unclear at (sym e))

  pub sight_stops :
      (r : RuleName) (n : ℕ) → i < n → some r ≡ first_applying (rules_of after (sample_at controls words i) seq_on) →
      ◌≡◌ {A = Sight} (record { finding = broken r i; cycles = i; handshakes = handshakes; clears = clears; watch = after })
      (sight_below w controls words seq_on n)
  sight_stops r n h e =
      rw (stops (rules_from w controls words seq_on) i n r h so_far.nothing (found_there (some r) e))
      (rw (so_far.counted, so_far.cleared, so_far.watched))

  pub sight_goes :
      none ≡ first_applying (rules_of after (sample_at controls words i) seq_on) →
      SoFar w controls words seq_on (i + 1) (handshakes + cond (handshake_at (sample_at controls words) i) 1 0) clears
      (next seq_on after (get_or controls i 0) (get_or words i 0))
  sight_goes e =
      record {
        nothing = goes_on (rules_from w controls words seq_on) i so_far.nothing (found_there none e);
        counted = rw (add-one i, so_far.counted);
        cleared = rw (add-one i, unclear, so_far.cleared) (sym (add-zero _));
        watched = rw (add-one i, so_far.watched);
      }

-- a clear cycle is counted, and not judged
pub sight_clears :
    {w : Watch} {controls words : List ℕ} {seq_on : Bool} {i handshakes clears : ℕ} {after : Watch} →
    SoFar w controls words seq_on i handshakes clears after → clear_at (sample_at controls words) i ≡ true →
    SoFar w controls words seq_on (i + 1) handshakes (clears + 1) (next seq_on after (get_or controls i 0) (get_or words i 0))
sight_clears {w} {controls} {words} {seq_on} {i} so_far clear =
    record {
      nothing = goes_on (rules_from w controls words seq_on) i so_far.nothing (rw clear);
      counted = rw (add-one i, clear, so_far.counted) (sym (add-zero _));
      cleared = rw (add-one i, clear, so_far.cleared);
      watched = rw (add-one i, so_far.watched);
    }

-- where a stretch leads, by what is found in it
pub leads :
    (w : Watch) (controls words : List ℕ) (seq_on : Bool) (from n : ℕ) (seen : Seen) (breach : std.Option Rule) → seen.breach ≡ breach →
    Leads w controls words seq_on from n seen → LeadsBy breach w controls words seq_on from n seen
leads w controls words seq_on from n seen breach e further =
    subst (λ (found : std.Option Rule). LeadsBy found w controls words seq_on from n seen) e further

-- a cycle adds at most one to a count
pub so_far_le :
    {w : Watch} {controls words : List ℕ} {seq_on : Bool} {i handshakes clears : ℕ} {after : Watch} →
    SoFar w controls words seq_on i handshakes clears after → (handshakes ≤ i) × (clears ≤ i)
so_far_le {controls} {words} {i} f =
    (rw f.counted (count_le (handshake_at (sample_at controls words)) i), rw f.cleared (count_le (clear_at (sample_at controls words)) i))

-- tables that agree in every cycle find the same
finding_same :
    (rules others : ℕ → List (Row RuleName)) → ((c : ℕ) → rules c ≡ others c) → (n : ℕ) → finding_below rules n ≡ finding_below others n
finding_same rules others h zero = refl
finding_same rules others h (suc n) =
    rw (finding_same rules others h n, h n)

-- a sight as an answer
abbrev pub answer_with : Finding RuleName → (handshakes clears : ℕ) → Answer
answer_with finding handshakes clears =
    record { judgement = record { verdict = judged finding; handshakes = handshakes }; clears = clears }

abbrev pub answer_of : Sight → Answer
answer_of s = answer_with s.finding s.handshakes s.clears

-- from the start on, the sight is the answer to the trace
pub sight_from_start :
    (controls words : List ℕ) (seq_on : Bool) (n : ℕ) →
    answer_of (sight_below start controls words seq_on n) ≡ answer_below seq_on (sample_at controls words) n
sight_from_start controls words seq_on n =
    rw (finding_same (rules_from start controls words seq_on) _ (rules_from_start seq_on controls words) n)

-- a breach lies among the cycles
pub finding_inside : (rules : ℕ → List (Row RuleName)) (n : ℕ) (r : RuleName) (c : ℕ) → finding_below rules n ≡ broken r c → c < n
finding_inside rules n r c e = (((judges rules n).broken_exactly r c).0 e).inside

-- no more cycles are counted than there are, and no more of anything than cycles
cycles_inside : (rules : ℕ → List (Row RuleName)) (n : ℕ) → cycles_counted (finding_below rules n) n ≤ n
cycles_inside rules n = inside (finding_below rules n) refl
  where
    inside : (f : Finding RuleName) → finding_below rules n ≡ f → cycles_counted f n ≤ n
    inside clean e = omega arith
    inside (broken r c) e = omega (arith, finding_inside rules n r c e)

pub count_inside : (has : ℕ → Bool) (rules : ℕ → List (Row RuleName)) (n : ℕ) → count_below has (cycles_counted (finding_below rules n) n) ≤ n
count_inside has rules n = omega (arith, count_le has (cycles_counted (finding_below rules n) n), cycles_inside rules n)

-- What whoever calls the loop with sequences of one length knows of its answer.
module _ (seen : Seen) (w : Watch) (controls words : List ℕ) (seq_on : Bool) (same : length controls ≡ length words)
    (sees : sight_of seen ≡ sight_below w controls words seq_on (common_length controls words)) where
  pub sees_all : sight_of seen ≡ sight_below w controls words seq_on (length controls)
  sees_all = let fewer : length controls ≡ common_length controls words = omega (arith, same) in rw fewer sees

  -- it counts no more cycles than there are, and no more of anything than cycles
  pub counted_inside : (seen.cycles ≤ length controls) × (seen.handshakes ≤ length controls) × (seen.clears ≤ length controls)
  counted_inside =
      let rules = rules_from w controls words seq_on in
      let n = length controls in (
        rw (ap cycles sees_all) (cycles_inside rules n),
        rw (ap handshakes sees_all) (count_inside (handshake_at (sample_at controls words)) rules n),
        rw (ap clears sees_all) (count_inside (clear_at (sample_at controls words)) rules n),
      )

  -- and the cycle of a breach is one of them
  pub cycle_inside : (rule : Rule) → seen.breach ≡ Some rule → seen.cycles < length controls
  cycle_inside rule e =
      finding_inside (rules_from w controls words seq_on) (length controls) (rule_name rule) seen.cycles
      (sym (ap finding sees_all) ∙ ap (λ (b : std.Option Rule). finding_of b seen.cycles) e)

  -- from the start on it is the answer to the trace
  pub sees_answer : w ≡ start → answer_of (sight_of seen) ≡ answer_below seq_on (sample_at controls words) (length controls)
  sees_answer e =
      ap answer_of sees_all ∙ rw e (sight_from_start controls words seq_on (length controls))
