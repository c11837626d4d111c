-- `trace_text::cycle_lines` meets its contract. The invariant: the entries written so far, with the lines from here on, answer for all.
-- Assumes nothing.
use Rattle.std.proofs.Common.{arith}
use Rattle.trace_text.proofs.Parts.{lines_go_on}
use Rattle.trace_text.proofs.cycle_lines.Goals as goal

pub loop-i-preserved : goal.loop-i-preserved
loop-i-preserved c =
    let l = c.loop-i in
    let read = c.in_ok-entry in
    lines_go_on l.rest.now c.args.cycles l.i l.control l.words _ l.invariant read.entry read.after.now
    (omega arith) (omega arith) (omega arith) read.ensures
