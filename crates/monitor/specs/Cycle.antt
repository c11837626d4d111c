-- Requests T-05 and T-09, over "Stream rules" of document 01: the record after one more cycle, and after more. Assumes nothing.
use Rattle.std.specs.Prelude as std
use Rattle.std.specs.Prelude.{ℕ, zero, suc, ◌+◌, true, false, cond, ◌&&◌, List, Some, None, eqb}
use Rattle.std.proofs.Math.Option.{Option, none, some}
use Rattle.signals.specs.Numbers.{rule_number}
use Rattle.signals.specs.Payloads.{zeros}
use Rattle.signals.specs.Stream.{Sample, clear_cycle, handshake}
use Rattle.signals.specs.Tables.{Row, first_applying}
use Rattle.signals.specs.Written.{RuleName}
use Rattle.stream_checker.specs.Rules.{stalled, breaks_held, breaks_stable, counter, after_counter, carries_counter, in_order, unless_clear}
use Rattle.stream_checker.specs.Step.{not_due}
use Rattle.monitor.specs.declared.Monitor.{Monitor}

-- the last cycle, as far as the next is judged by it: stalled with its payload, or not stalled
abbrev pub last_seen : Monitor → Sample
last_seen m = record { valid = m.stalled; ready = false; clear = false; payload = m.payload }

-- the counter that is due next, if one was carried since the last clear cycle
abbrev pub due_of : Monitor → std.Option ℕ
due_of m = cond m.counted (Some m.due) None

-- the rules in the next cycle; a clear cycle is not judged
abbrev pub rules_next : Monitor → Sample → List (Row RuleName)
rules_next m now =
    unless_clear now
    (in_order m.seq (breaks_held (last_seen m) now) (breaks_stable (last_seen m) now)
    (carries_counter now && not_due (due_of m) (counter now)))

-- a cycle that breaks no rule: it is counted if it is a handshake or a clear cycle, kept if it stalled, and its counter, where seq is on,
-- sets the next; after a clear cycle no counter is due
abbrev pub passed : Monitor → Sample → Monitor
passed m now =
    record {
      seq = m.seq;
      cycles = m.cycles + 1;
      verdict = 1;
      rule = 0;
      cycle = 0;
      handshakes = m.handshakes + cond (handshake now) 1 0;
      clears = m.clears + cond (clear_cycle now) 1 0;
      stalled = stalled now;
      payload = cond (stalled now) now.payload zeros;
      counted = cond (clear_cycle now) false (cond (m.seq && carries_counter now) true m.counted);
      due = cond (clear_cycle now) 0 (cond (m.seq && carries_counter now) (after_counter (counter now)) m.due);
    }

-- a cycle that breaks a rule: the record keeps the rule, the cycle, and the handshakes and the clear cycles before it, and nothing else
abbrev pub broken_by : Monitor → RuleName → Monitor
broken_by m rule =
    record m {
      cycles = m.cycles + 1;
      verdict = 2;
      rule = rule_number rule;
      cycle = m.cycles;
      stalled = false;
      payload = zeros;
      counted = false;
      due = 0;
    }

-- a cycle after the breach: it adds to the cycles seen and to nothing else
abbrev pub seen_only : Monitor → Monitor
seen_only m = record m { cycles = m.cycles + 1 }

-- the next cycle of a clean record, by the first rule in order that it breaks
abbrev pub judged_next : Monitor → Sample → Option RuleName → Monitor
judged_next m now none = passed m now
judged_next m now (some rule) = broken_by m rule

-- the record after one more cycle; once broken it stays broken
abbrev pub one_more : Monitor → Sample → Monitor
one_more m now = cond (eqb m.verdict 1) (judged_next m now (first_applying (rules_next m now))) (seen_only m)

-- the record after the first n cycles of a burst
abbrev pub after_cycles : Monitor → (burst : ℕ → Sample) → ℕ → Monitor
after_cycles m burst zero = m
after_cycles m burst (suc n) = one_more (after_cycles m burst n) (burst n)
