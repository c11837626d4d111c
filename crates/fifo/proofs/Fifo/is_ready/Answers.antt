-- `Fifo::is_ready` meets its contract, by `ready_trusted`: the numbers are those of the FIFO. Assumes nothing.
use mathlib.Core.Path.{sym, ap, ◌∙◌}
use Rattle.fifo.specs.Ring.{ready_in}
use Rattle.fifo.proofs.Form.{ready_count, ready_trusted}
use Rattle.fifo.proofs.Fifo.is_ready.Goals as goal

pub returns : goal.returns
returns c =
    let f = c.args.self in
    rw (c.is_ready.ensures ∙ ap ready_in c.pointers.ensures ∙ sym (ready_count f), c.is_in_range.ensures)
    (sym (ready_trusted f))
