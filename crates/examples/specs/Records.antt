-- Requests T-05 and T-09: for each test of refusal 6 a record that only this test refuses, beside the same record mended there, as
-- one list in the order of docs/MONITOR.md, and for the tests that count clears one more. `proofs/Records.antt` has the claim: each is
-- refused, and each mended one accepted. Assumes nothing.
use Rattle.std.specs.Prelude.{true, false, List, [], ◌∷◌}
use Rattle.monitor.specs.declared.Monitor.{Monitor}
use Rattle.examples.specs.Parts.{seen, verdict, clean, broken, stall, no_stall, next_due, none_due, with}

-- a record that one test refuses, and the same mended: two of a kind, and no question with its answer
pub record Example : Type 0 where
  pub refused : Monitor
  pub mended : Monitor

infix 80 ◌not◌
abbrev pub ◌not◌ : Monitor → Monitor → Example
mended not refused = record { refused = refused; mended = mended }

abbrev pub examples : List Example
examples =
    -- 1: a strobe has four bits
    with (seen false 1 0 0) clean (stall 0 15) (none_due 0) not with (seen false 1 0 0) clean (stall 0 16) (none_due 0)
    -- 2: a counter has sixteen
    ∷ with (seen true 1 1 0) clean (no_stall 0 0) (next_due 65535) not with (seen true 1 1 0) clean (no_stall 0 0) (next_due 65536)
    -- 3: no payload where the last cycle did not stall
    ∷ with (seen false 1 0 0) clean (stall 1 0) (none_due 0) not with (seen false 1 0 0) clean (no_stall 1 0) (none_due 0)
    -- 4: no counter due where none was carried
    ∷ with (seen true 1 1 0) clean (no_stall 0 0) (next_due 1) not with (seen true 1 1 0) clean (no_stall 0 0) (none_due 1)
    -- 5: no counter where seq is off
    ∷ with (seen true 1 1 0) clean (no_stall 0 0) (next_due 1) not with (seen false 1 1 0) clean (no_stall 0 0) (next_due 1)
    -- 6: clean or broken
    ∷ with (seen false 0 0 0) clean (no_stall 0 0) (none_due 0) not with (seen false 0 0 0) (verdict 0 0 0) (no_stall 0 0) (none_due 0)
    -- 7: clean, no rule
    ∷ with (seen false 0 0 0) clean (no_stall 0 0) (none_due 0) not with (seen false 0 0 0) (verdict 1 4 0) (no_stall 0 0) (none_due 0)
    -- 8: clean, no cycle
    ∷ with (seen false 2 0 0) clean (no_stall 0 0) (none_due 0) not with (seen false 2 0 0) (verdict 1 0 1) (no_stall 0 0) (none_due 0)
    -- 9: clean, as many handshakes as cycles at most
    ∷ with (seen false 1 1 0) clean (no_stall 0 0) (none_due 0) not with (seen false 0 1 0) clean (no_stall 0 0) (none_due 0)
    -- 10: clean, fewer handshakes than cycles where the last stalled
    ∷ with (seen false 2 1 0) clean (stall 0 0) (none_due 0) not with (seen false 1 1 0) clean (stall 0 0) (none_due 0)
    -- 11: clean, a counter came with a handshake
    ∷ with (seen true 1 1 0) clean (no_stall 0 0) (next_due 1) not with (seen true 1 0 0) clean (no_stall 0 0) (next_due 1)
    -- 12: broken in a cycle that was seen
    ∷ with (seen false 2 0 0) (broken 4 1) (no_stall 0 0) (none_due 0) not with (seen false 1 0 0) (broken 4 1) (no_stall 0 0) (none_due 0)
    -- 13: broken, no stall is kept
    ∷ with (seen false 2 0 0) (broken 4 1) (no_stall 0 0) (none_due 0) not with (seen false 2 0 0) (broken 4 1) (stall 0 0) (none_due 0)
    -- 14: broken, no counter is kept
    ∷ with (seen true 2 1 0) (broken 100 1) (no_stall 0 0) (none_due 0) not
    with (seen true 2 1 0) (broken 100 1) (no_stall 0 0) (next_due 0)
    -- 15: broken by rule 4, 2 or seq
    ∷ with (seen false 2 0 0) (broken 2 1) (no_stall 0 0) (none_due 0) not with (seen false 2 0 0) (broken 3 1) (no_stall 0 0) (none_due 0)
    -- 16: by rule 4 or 2, fewer handshakes than cycles before it
    ∷ with (seen false 3 1 0) (broken 2 2) (no_stall 0 0) (none_due 0) not with (seen false 3 2 0) (broken 2 2) (no_stall 0 0) (none_due 0)
    -- 17: by rule seq, seq is on
    ∷ with (seen true 2 1 0) (broken 100 1) (no_stall 0 0) (none_due 0) not
    with (seen false 2 1 0) (broken 100 1) (no_stall 0 0) (none_due 0)
    -- 18: by rule seq, after a handshake
    ∷ with (seen true 2 1 0) (broken 100 1) (no_stall 0 0) (none_due 0) not
    with (seen true 2 0 0) (broken 100 1) (no_stall 0 0) (none_due 0)
    -- 19: by rule seq, as many handshakes as cycles before it at most
    ∷ with (seen true 2 1 0) (broken 100 1) (no_stall 0 0) (none_due 0) not
    with (seen true 2 2 0) (broken 100 1) (no_stall 0 0) (none_due 0)
    -- Request T-09, the tests that count clears with the handshakes. 9: as many of both as cycles at most
    ∷ with (seen false 2 1 1) clean (no_stall 0 0) (none_due 0) not with (seen false 1 1 1) clean (no_stall 0 0) (none_due 0)
    -- 10: fewer of both where the last cycle stalled
    ∷ with (seen false 3 1 1) clean (stall 0 0) (none_due 0) not with (seen false 2 1 1) clean (stall 0 0) (none_due 0)
    -- 16: by rule 4 or 2, fewer of both than cycles before it
    ∷ with (seen false 3 1 0) (broken 2 2) (no_stall 0 0) (none_due 0) not with (seen false 3 1 1) (broken 2 2) (no_stall 0 0) (none_due 0)
    -- 19: by rule seq, as many of both as cycles before it at most
    ∷ with (seen true 2 1 0) (broken 100 1) (no_stall 0 0) (none_due 0) not
    with (seen true 2 1 1) (broken 100 1) (no_stall 0 0) (none_due 0)
    ∷ []
