-- What the checker of whole traces keeps, and what a record keeps of it. The contracts of private functions cite this. Assumes nothing.
use Rattle.std.specs.Prelude.{ℕ, ◌+◌, ◌*◌, Bool, false, cond, is_some, unwrap_or}
use Rattle.signals.specs.Numbers.{rule_number}
use Rattle.signals.specs.Payloads.{zeros}
use Rattle.signals.specs.Written.{RuleName}
use Rattle.signals.specs.declared.Payload.{Payload}
use Rattle.stream_checker.specs.Rules.{stalled}
use Rattle.stream_checker.specs.Step.{before}
use Rattle.stream_checker.specs.declared.watch.Watch.{Watch}
use Rattle.monitor.specs.declared.Monitor.{Monitor}
use Rattle.monitor.specs.Cycle.{due_of}

-- the watch from which a burst is judged: the last cycle as if it were just seen, valid 1 and ready 0 if it stalled
abbrev pub watch_of : Monitor → Watch
watch_of m =
    record {
      control = cond m.stalled (1 + 16 * m.payload.strb) 0;
      «data» = m.payload.«data»;
      due = due_of m;
    }

-- what a record keeps of the last cycle: its payload if it stalled
abbrev pub payload_kept : Watch → Payload
payload_kept w = cond (stalled (before w)) (before w).payload zeros

-- and of the counters: the one due, if one was carried
abbrev pub due_kept : Watch → ℕ
due_kept w = unwrap_or w.due 0

-- a clean record
abbrev pub clean_with :
    (seq_on : Bool) → (cycles handshakes clears : ℕ) → (stall : Bool) → Payload → (counted : Bool) → (due : ℕ) → Monitor
clean_with seq_on cycles handshakes clears stall payload counted due =
    record {
      seq = seq_on;
      cycles = cycles;
      verdict = 1;
      rule = 0;
      cycle = 0;
      handshakes = handshakes;
      clears = clears;
      stalled = stall;
      payload = payload;
      counted = counted;
      due = due;
    }

-- the clean record of a watch
abbrev pub kept : (seq_on : Bool) → (cycles handshakes clears : ℕ) → Watch → Monitor
kept seq_on cycles handshakes clears w =
    clean_with seq_on cycles handshakes clears (stalled (before w)) (payload_kept w) (is_some w.due) (due_kept w)

-- a broken record
abbrev pub broken_with : (seq_on : Bool) → (cycles rule cycle handshakes clears : ℕ) → Monitor
broken_with seq_on cycles rule cycle handshakes clears =
    record {
      seq = seq_on;
      cycles = cycles;
      verdict = 2;
      rule = rule;
      cycle = cycle;
      handshakes = handshakes;
      clears = clears;
      stalled = false;
      payload = zeros;
      counted = false;
      due = 0;
    }

-- a clean record that is broken in cycle c of a burst
abbrev pub broken_in : Monitor → (cycles handshakes clears : ℕ) → RuleName → (c : ℕ) → Monitor
broken_in m cycles handshakes clears rule c = broken_with m.seq cycles (rule_number rule) (m.cycles + c) handshakes clears

-- a record that has seen more, and is otherwise as it was
abbrev pub with_cycles : Monitor → (cycles : ℕ) → Monitor
with_cycles m cycles = record m { cycles = cycles }

-- a record that keeps a watch
abbrev pub with_last : Monitor → Watch → Monitor
with_last m w = record m { stalled = stalled (before w); payload = payload_kept w; counted = is_some w.due; due = due_kept w }

-- a record that keeps a breach
abbrev pub with_breach : Monitor → RuleName → (cycle : ℕ) → Monitor
with_breach m rule cycle = broken_with m.seq m.cycles (rule_number rule) cycle m.handshakes m.clears
