-- `trace_text::short_number` meets its contract: its digits are cut off and stand for the number. Assumes nothing.
use Rattle.std.proofs.Common.{arith}
use Rattle.trace_text.proofs.Parts.{number_taken}
use Rattle.trace_text.proofs.short_number.Goals as goal

pub returns-in_err-number : goal.returns-in_err-number
returns-in_err-number c =
    let count = c.digit_count-count in
    let taken = number_taken c.args.text.now count.result count.ensures.count (omega arith) (omega arith) c.if-count-ne1.either in
    rw (c.from_residual.ensures, taken, ← c.split_at.ensures.front, c.in_err-number.ensures)

pub returns : goal.returns
returns c =
    let count = c.digit_count-count in
    let taken = number_taken c.args.text.now count.result count.ensures.count (omega arith) (omega arith) c.if-count-ne1.either in
    rw (taken, ← c.split_at.ensures.front, c.in_ok-number.ensures, c.split_at.ensures.back)
