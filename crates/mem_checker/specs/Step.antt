-- The checkers' step over one cycle: what they keep of the cycles before, which rule one more breaks, and what they keep after it.
-- The contracts of private functions cite this; the promises of `check_mem` and `check_mem_decoupled` do not. Assumes nothing.
use Rattle.std.specs.Prelude as std
use Rattle.std.specs.Prelude.{ℕ, ◌+◌, Bool, false, cond, not, ◌&&◌, None, Some, unwrap_or}
use Rattle.std.proofs.Math.Option.{Option, none, some}
use Rattle.signals.specs.Memory.{Access, granted}
use Rattle.mem_checker.specs.declared.Rule.{Rule}
use Rattle.mem_checker.specs.declared.Checked.{Checked}
use Rattle.mem_checker.specs.declared.watch.Watch.{Watch}
use Rattle.mem_checker.specs.Rules.{Protocol, read_handshake, differs}
use Rattle.mem_checker.specs.Verdicts.{Answer, answer, judged_by}

-- the answer to n cycles that are not refused
abbrev pub unrefused : Protocol → (ℕ → Access) → ℕ → Answer
unrefused protocol trace n = answer protocol trace n (judged_by protocol trace n)

-- the code's answer at a breach
abbrev pub broken_at : Rule → (cycle handshakes : ℕ) → Checked
broken_at rule cycle handshakes = record { breach = Some (record { rule = rule; cycle = cycle }); handshakes = handshakes; «open» = false }

-- no read is to be answered, there was no handshake, and nothing was counted
abbrev pub start : Watch
start = record { reading = false; direction = None; handshakes = 0 }

-- whether the next cycle breaks rule 2 of HWPE-Mem
abbrev pub breaks_response : Watch → Access → Bool
breaks_response w now = w.reading && not now.r_valid

-- the wen of the first handshake, as the rules write it
abbrev pub wen_of : std.Option Bool → Option Bool
wen_of None = none
wen_of (Some first) = some first

-- whether it breaks rule 4 of HWPE-MemDecoupled
abbrev pub breaks_direction : Watch → Access → Bool
breaks_direction w now = granted now && differs (wen_of w.direction) now.wen

-- the watch after a cycle
abbrev pub next : Watch → Access → Watch
next w now =
    record {
      reading = read_handshake now;
      direction = cond (granted now) (Some (unwrap_or w.direction now.wen)) w.direction;
      handshakes = w.handshakes + cond (granted now) 1 0;
    }
