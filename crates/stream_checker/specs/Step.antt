-- The checker's step over one cycle: what it keeps of the cycles before, which rule one more breaks first, and so over further cycles.
-- `judge_cycles`, the private functions and the records of `monitor` cite this; the promise of `check_stream` does not. Assumes nothing.
use Rattle.std.specs.Prelude.{ℕ, zero, suc, ◌<◌, ◌≤◌, Bool, false, cond, not, ◌&&◌, ◌||◌, List, [], ◌∷◌, ◌≡◌, eqb, min, length, get_or, Some, None}
use Rattle.std.specs.Prelude as std
use Rattle.std.proofs.Math.Option.{Option, none, some}
use Rattle.signals.specs.Judging.{Finding, clean, broken, count_below, finding_below, cycles_counted}
use Rattle.signals.specs.Stream.{Sample, sample, sample_at, clear_cycle}
use Rattle.signals.specs.Tables.{Row}
use Rattle.signals.specs.Written.{RuleName}
use Rattle.stream_checker.specs.declared.Rule.{Rule}
use Rattle.stream_checker.specs.declared.Seen.{Seen}
use Rattle.stream_checker.specs.declared.watch.Watch.{Watch}
use Rattle.stream_checker.specs.Rules.{breaks_held, breaks_stable, counter, after_counter, carries_counter, in_order, unless_clear}
use Rattle.stream_checker.specs.Verdicts.{handshake_at, clear_at}
use Rattle.stream_checker.specs.Written.{rule_name}

-- nothing is stalled, and no counter was carried
abbrev pub start : Watch
start = record { control = 0; «data» = 0; due = None }

-- the cycle before
abbrev pub before : Watch → Sample
before w = sample w.control w.«data»

-- a counter that is not the one due; where none was carried since the last clear cycle, any is
abbrev pub not_due : (due : std.Option ℕ) → ℕ → Bool
not_due None n = false
not_due (Some due) n = not (eqb n due)

-- whether the next cycle breaks rule seq
abbrev pub breaks_seq_after : Watch → Sample → Bool
breaks_seq_after w now = carries_counter now && not_due w.due (counter now)

-- the rules in the next cycle, and those of them that are judged
abbrev pub rules_of : Watch → Sample → (seq_on : Bool) → List (Row RuleName)
rules_of w now seq_on = in_order seq_on (breaks_held (before w) now) (breaks_stable (before w) now) (breaks_seq_after w now)

abbrev pub rules_after : Watch → Sample → (seq_on : Bool) → List (Row RuleName)
rules_after w now seq_on = unless_clear now (rules_of w now seq_on)

-- the name of the rule that is broken, if one is
abbrev pub rule_in : std.Option Rule → Option RuleName
rule_in None = none
rule_in (Some rule) = some (rule_name rule)

-- the watch after a cycle; counters are kept where rule seq is judged, up to the next clear cycle
abbrev pub next : (seq_on : Bool) → Watch → (control word : ℕ) → Watch
next seq_on w control word =
    let now = sample control word in
    record {
      control = control;
      «data» = word;
      due = cond (clear_cycle now) None (cond (seq_on && carries_counter now) (Some (after_counter (counter now))) w.due);
    }

-- how many cycles both sequences have
abbrev pub common_length : (controls words : List ℕ) → ℕ
common_length controls words = min (length controls) (length words)

-- the watch after the first n of further cycles
abbrev pub watch_after : (seq_on : Bool) → Watch → (controls words : List ℕ) → ℕ → Watch
watch_after seq_on w controls words zero = w
watch_after seq_on w controls words (suc n) = next seq_on (watch_after seq_on w controls words n) (get_or controls n 0) (get_or words n 0)

-- the rules in each of them
abbrev pub rules_from : Watch → (controls words : List ℕ) → (seq_on : Bool) → ℕ → List (Row RuleName)
rules_from w controls words seq_on c = rules_after (watch_after seq_on w controls words c) (sample_at controls words c) seq_on

-- What is seen of further cycles: the first breach, the cycles before it or all, the handshakes and the clear cycles among them, and the
-- watch after them.
pub record Sight : Type 0 where
  pub finding : Finding RuleName
  pub cycles : ℕ
  pub handshakes : ℕ
  pub clears : ℕ
  pub watch : Watch

-- the sight of as many cycles, with what is found behind them
abbrev pub sight_with : Finding RuleName → Watch → (controls words : List ℕ) → (seq_on : Bool) → (cycles : ℕ) → Sight
sight_with finding w controls words seq_on cycles =
    record {
      finding = finding;
      cycles = cycles;
      handshakes = count_below (handshake_at (sample_at controls words)) cycles;
      clears = count_below (clear_at (sample_at controls words)) cycles;
      watch = watch_after seq_on w controls words cycles;
    }

-- the sight of the first n of them
abbrev pub sight_below : Watch → (controls words : List ℕ) → (seq_on : Bool) → ℕ → Sight
sight_below w controls words seq_on n =
    let finding = finding_below (rules_from w controls words seq_on) n in sight_with finding w controls words seq_on (cycles_counted finding n)

-- what the code found
abbrev pub finding_of : std.Option Rule → (cycles : ℕ) → Finding RuleName
finding_of None cycles = clean
finding_of (Some rule) cycles = broken (rule_name rule) cycles

abbrev pub sight_of : Seen → Sight
sight_of seen =
    record {
      finding = finding_of seen.breach seen.cycles;
      cycles = seen.cycles;
      handshakes = seen.handshakes;
      clears = seen.clears;
      watch = seen.watch;
    }

-- nothing is found in the first i of further cycles, and the counts and the watch are those after them
pub record SoFar (w : Watch) (controls words : List ℕ) (seq_on : Bool) (i handshakes clears : ℕ) (after : Watch) : Type 0 where
  pub nothing : finding_below (rules_from w controls words seq_on) i ≡ clean
  pub counted : handshakes ≡ count_below (handshake_at (sample_at controls words)) i
  pub cleared : clears ≡ count_below (clear_at (sample_at controls words)) i
  pub watched : after ≡ watch_after seq_on w controls words i

-- where a stretch leads that begins at one of the first n: further on, with nothing found yet; or, by a breach, to the sight of them all
abbrev pub LeadsBy : std.Option Rule → Watch → (controls words : List ℕ) → (seq_on : Bool) → (from n : ℕ) → Seen → Type 0
LeadsBy None w controls words seq_on from n seen =
    SoFar w controls words seq_on seen.cycles seen.handshakes seen.clears seen.watch × (from < seen.cycles) × (seen.cycles ≤ n)
LeadsBy (Some rule) w controls words seq_on from n seen = sight_of seen ≡ sight_below w controls words seq_on n

abbrev pub Leads : Watch → (controls words : List ℕ) → (seq_on : Bool) → (from n : ℕ) → Seen → Type 0
Leads w controls words seq_on from n seen = LeadsBy seen.breach w controls words seq_on from n seen
