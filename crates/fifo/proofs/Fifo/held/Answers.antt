-- `Fifo::held` meets its contract: the numbers in range, as many are held as are counted; else none is. Assumes nothing.
use mathlib.Core.Path.{sym, ap, ◌∙◌}
use lib.ListN.{length}
use Rattle.fifo.specs.Queue.{Value, queue_in}
use Rattle.fifo.proofs.Form.{trusted_in_lem, trusted_out, count_held}
use Rattle.fifo.proofs.Fifo.held.Goals as goal

pub returns-then-is_in_range : goal.returns-then-is_in_range
returns-then-is_in_range c =
    let f = c.args.self in
    let inside = sym c.is_in_range.ensures ∙ c.if-is_in_range.true in
    sym (ap (λ (v : Value). length (queue_in v).held) (trusted_in_lem f inside) ∙ count_held f)

pub returns-else-is_in_range : goal.returns-else-is_in_range
returns-else-is_in_range c =
    let f = c.args.self in
    let outside = sym c.is_in_range.ensures ∙ c.if-is_in_range.false in
    sym (ap (λ (v : Value). length (queue_in v).held) (trusted_out f outside))
