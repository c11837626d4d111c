-- `Pointers::turn` meets its contract: a clear, or the cycle of `Turning`, with a payload that joins or without. Assumes nothing.
use Rattle.fifo.proofs.Turning.{turns_cleared, turns_joined, turns_kept}
use Rattle.fifo.proofs.Pointers.turn.Goals as goal

pub returns-then-given : goal.returns-then-given
returns-then-given c = let g = c.args.given in rw c.if-given.true (turns_cleared c.args.self g.valid g.payload g.sink c.requires)

pub returns-then-given-ready : goal.returns-then-given-ready
returns-then-given-ready c =
    let g = c.args.given in
    rw c.if-given.false
    (turns_joined c.args.self c.popped-next.result g.valid g.payload g.sink _ c.is_ready-ready.ensures c.popped-next.ensures.value
    c.wrap.result c.wrap.ensures c.if-given-ready.true)

pub returns-else-given-ready : goal.returns-else-given-ready
returns-else-given-ready c =
    let g = c.args.given in
    rw c.if-given.false
    (turns_kept c.args.self c.popped-next.result g.valid g.payload g.sink _ c.is_ready-ready.ensures c.popped-next.ensures.value
    c.if-given-ready.false)
