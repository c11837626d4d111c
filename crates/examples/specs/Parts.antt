-- Requests T-05 and T-09: a monitor's record by its parts, for the examples. Assumes nothing.
use Rattle.std.specs.Prelude.{ℕ, Bool, true, false}
use Rattle.monitor.specs.declared.Monitor.{Monitor}

-- the four parts of a record: what was seen, the breach, the last cycle, and the counter due
pub record Seen : Type 0 where
  pub seq_on : Bool
  pub cycles : ℕ
  pub handshakes : ℕ
  pub clears : ℕ

pub record Breach : Type 0 where
  pub verdict : ℕ
  pub rule : ℕ
  pub cycle : ℕ

pub record Last : Type 0 where
  pub stalled : Bool
  pub word : ℕ
  pub strb : ℕ

pub record Due : Type 0 where
  pub counted : Bool
  pub due : ℕ

abbrev pub seen : Bool → (cycles handshakes clears : ℕ) → Seen
seen seq_on cycles handshakes clears = record { seq_on = seq_on; cycles = cycles; handshakes = handshakes; clears = clears }

abbrev pub verdict : (verdict rule cycle : ℕ) → Breach
verdict v rule cycle = record { verdict = v; rule = rule; cycle = cycle }

abbrev pub clean : Breach
clean = verdict 1 0 0

abbrev pub broken : (rule cycle : ℕ) → Breach
broken rule cycle = verdict 2 rule cycle

abbrev pub stall : (word strb : ℕ) → Last
stall word strb = record { stalled = true; word = word; strb = strb }

abbrev pub no_stall : (word strb : ℕ) → Last
no_stall word strb = record { stalled = false; word = word; strb = strb }

abbrev pub next_due : ℕ → Due
next_due due = record { counted = true; due = due }

abbrev pub none_due : ℕ → Due
none_due due = record { counted = false; due = due }

abbrev pub with : Seen → Breach → Last → Due → Monitor
with s b l d =
    record {
      seq = s.seq_on;
      cycles = s.cycles;
      verdict = b.verdict;
      rule = b.rule;
      cycle = b.cycle;
      handshakes = s.handshakes;
      clears = s.clears;
      stalled = l.stalled;
      payload = record { «data» = l.word; strb = l.strb };
      counted = d.counted;
      due = d.due;
    }
