-- `trace_text::cycle_lines` meets its contract. The invariant: the entries written so far, with the lines from here on, answer for all.
-- Assumes nothing.
use Rattle.std.proofs.Common.{◌≡◌, ◌-◌, take}
use Rattle.trace_text.specs.Form.{cycle_lines}
use Rattle.trace_text.specs.Parts.{columns}
use Rattle.trace_text.proofs.Parts.{columns_after}
use Rattle.trace_text.proofs.cycle_lines.Given as goal

abbrev pub invariant-loop-i : goal.invariant-loop-i
invariant-loop-i l =
    columns (cycle_lines l.cycles l.text) ≡ columns_after (take l.i l.control) (take l.i l.words) (columns (cycle_lines (l.cycles - l.i) l.rest))
