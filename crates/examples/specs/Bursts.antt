-- Requests T-05 and T-09: the stream examples of document 01, and one with a clear cycle, cut into bursts, as one list of cuttings
-- with the records that they leave. `proofs/Bursts.antt` has the claim: these are the definitions' records. Assumes nothing.
use Rattle.std.specs.Prelude.{ℕ, Bool, true, false, List, [], ◌∷◌}
use Rattle.monitor.specs.Theorems.{Burst}
use Rattle.monitor.specs.declared.Monitor.{Monitor}
use Rattle.examples.specs.Bench.{firsts, seconds}
use Rattle.examples.specs.Parts.{seen, clean, broken, stall, no_stall, next_due, none_due, with}

-- a burst by its cycles: control byte and data of each
abbrev burst : List (ℕ × ℕ) → Burst
burst cycles = record { controls = firsts cycles; words = seconds cycles }

-- a burst whose lengths differ
abbrev uneven : Burst
uneven = record { controls = 0xf3 ∷ []; words = [] }

-- a clean record with nothing kept, one whose last cycle stalled, one in which a counter is due, and a broken one
abbrev nothing_kept : (seq_on : Bool) → (cycles handshakes clears : ℕ) → Monitor
nothing_kept seq_on cycles handshakes clears = with (seen seq_on cycles handshakes clears) clean (no_stall 0 0) (none_due 0)

abbrev stalled_on : (word strb cycles handshakes clears : ℕ) → Monitor
stalled_on word strb cycles handshakes clears = with (seen false cycles handshakes clears) clean (stall word strb) (none_due 0)

abbrev due_next : (due cycles handshakes clears : ℕ) → Monitor
due_next due cycles handshakes clears = with (seen true cycles handshakes clears) clean (no_stall 0 0) (next_due due)

abbrev broken_by : (rule : ℕ) → (seq_on : Bool) → (cycles cycle handshakes clears : ℕ) → Monitor
broken_by rule seq_on cycles cycle handshakes clears =
    with (seen seq_on cycles handshakes clears) (broken rule cycle) (no_stall 0 0) (none_due 0)

-- Bursts from a fresh record on, and the record that they leave. Fields by name, which the claim reads: in `Asked` they would be a pair.
pub record Example : Type 0 where
  pub seq_on : Bool
  pub bursts : List Burst
  pub expected : Monitor

infix 80 ◌leave◌
abbrev pub ◌leave◌ : Bool × List Burst → Monitor → Example
cut leave expected = record { seq_on = cut.0; bursts = cut.1; expected = expected }

abbrev pub examples : List Example
examples =
    -- P1 in no burst, and in an empty one: as fresh
    (false, []) leave nothing_kept false 0 0 0
    ∷ (false, burst [] ∷ []) leave nothing_kept false 0 0 0
    -- P2 up to the second stall, cut through the first: the payload is kept
    ∷ (false, burst ((0x02, 0x00) ∷ (0xf1, 0x11) ∷ []) ∷ burst ((0xf3, 0x11) ∷ (0xf1, 0x12) ∷ []) ∷ []) leave stalled_on 0x12 15 4 1 0
    -- P2 whole, cut through both stalls: broken, rule 2, at 4, handshakes 1
    ∷ (false, burst ((0x02, 0x00) ∷ (0xf1, 0x11) ∷ []) ∷ burst ((0xf3, 0x11) ∷ (0xf1, 0x12) ∷ []) ∷ burst ((0xf3, 0x13) ∷ []) ∷ []) leave
    broken_by 2 false 5 4 1 0
    -- P3 cut between its two cycles, with an empty burst there: rule 4 at 1
    ∷ (false, burst ((0xf1, 0x11) ∷ []) ∷ burst [] ∷ burst ((0xf0, 0x12) ∷ []) ∷ []) leave broken_by 4 false 2 1 0 0
    -- P3, and three handshakes after the breach: they add to the cycles seen and to nothing else
    ∷ (false, burst ((0xf1, 0x11) ∷ (0xf0, 0x12) ∷ []) ∷ burst ((0xf3, 1) ∷ (0xf3, 1) ∷ (0xf3, 1) ∷ []) ∷ []) leave
    broken_by 4 false 5 1 0 0
    -- P4 cut between its two cycles: 0 is due after 65,535, and after it 1
    ∷ (true, burst ((0xf3, 65535) ∷ []) ∷ burst ((0xf3, 0) ∷ []) ∷ []) leave due_next 1 2 2 0
    -- P4 with a handshake of strb 14 between, cut around it
    ∷ (true, burst ((0xf3, 65535) ∷ []) ∷ burst ((0xe3, 5) ∷ []) ∷ burst ((0xf3, 0) ∷ []) ∷ []) leave due_next 1 3 3 0
    -- P5 cut between its two cycles: seq at the second
    ∷ (true, burst ((0xf3, 7) ∷ []) ∷ burst ((0xf3, 7) ∷ []) ∷ []) leave broken_by 100 true 2 1 1 0
    -- a handshake of strb 14 alone carries no counter: it counts, and none is due
    ∷ (true, burst ((0xe3, 5) ∷ []) ∷ []) leave nothing_kept true 1 1 0
    -- P4 with refused bursts between its cycles, by the reserved bit and by lengths that differ: they change nothing
    ∷ (true, burst ((0xf3, 65535) ∷ []) ∷ burst ((0xf3, 9) ∷ (0x08, 0) ∷ []) ∷ uneven ∷ burst ((0xf3, 0) ∷ []) ∷ []) leave
    due_next 1 2 2 0
    -- Request T-09: a burst that ends in a stall, and one that begins with a clear, after which valid is withdrawn: clean, clears 1
    ∷ (false, burst ((0xf1, 0x11) ∷ []) ∷ burst ((0x04, 0) ∷ (0xf0, 0x12) ∷ []) ∷ []) leave nothing_kept false 3 0 1
    ∷ []
