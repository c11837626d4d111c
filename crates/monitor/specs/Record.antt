-- Requests T-05 and T-09: a fresh record, and which records bursts can have left (the tests of refusal 6). Assumes nothing.
use Rattle.std.specs.Prelude.{ℕ, ◌+◌, Bool, false, cond, not, ◌&&◌, ◌||◌, eqb, leb, ltb}
use Rattle.signals.specs.Payloads.{zeros, legal_strb, same_payload}
use Rattle.stream_checker.specs.Rules.{counters}
use Rattle.monitor.specs.declared.Monitor.{Monitor}

-- A record that has seen nothing; the seq switch is set in it.
abbrev pub fresh : (seq_on : Bool) → Monitor
fresh seq_on =
    record {
      seq = seq_on;
      cycles = 0;
      verdict = 1;
      rule = 0;
      cycle = 0;
      handshakes = 0;
      clears = 0;
      stalled = false;
      payload = zeros;
      counted = false;
      due = 0;
    }

-- a strobe has four bits, and a counter sixteen
abbrev pub in_range : Monitor → Bool
in_range m = legal_strb m.payload && ltb m.due counters

-- no payload and no counter beside a flag that is off, and no counter where seq is off
abbrev pub in_place : Monitor → Bool
in_place m = (m.stalled || same_payload m.payload zeros) && ((m.counted || eqb m.due 0) && (m.seq || not m.counted))

-- both counts: no cycle is a handshake and a clear cycle
abbrev pub handshakes_and_clears : Monitor → ℕ
handshakes_and_clears m = m.handshakes + m.clears

-- Clean: it has no rule and no cycle; the handshakes, the clear cycles, and one more cycle if the last stalled, are together among those
-- seen; and a counter came with a handshake.
abbrev pub clean_form : Monitor → Bool
clean_form m =
    (eqb m.rule 0 && eqb m.cycle 0)
    && (cond m.stalled (ltb (handshakes_and_clears m) m.cycles) (leb (handshakes_and_clears m) m.cycles)
    && (not m.counted || ltb 0 m.handshakes))

-- broken by rule 4 or 2: of the cycles before the broken one the last stalled, and so was neither a handshake nor a clear cycle
abbrev pub broken_after_stall : Monitor → Bool
broken_after_stall m = (eqb m.rule 4 || eqb m.rule 2) && ltb (handshakes_and_clears m) m.cycle

-- broken by rule seq: it is switched on, and a handshake before the broken cycle carried a counter
abbrev pub broken_by_seq : Monitor → Bool
broken_by_seq m = eqb m.rule 100 && (m.seq && (ltb 0 m.handshakes && leb (handshakes_and_clears m) m.cycle))

-- Broken: in a cycle that was seen; and nothing is kept of what the next cycle would be judged by.
abbrev pub broken_form : Monitor → Bool
broken_form m =
    (ltb m.cycle m.cycles && (not m.stalled && not m.counted)) && (broken_after_stall m || broken_by_seq m)

-- the tests of refusal 6; a verdict is 1, clean, or 2, broken
abbrev pub legal : Monitor → Bool
legal m = (in_range m && in_place m) && ((eqb m.verdict 1 && clean_form m) || (eqb m.verdict 2 && broken_form m))
