-- All blocks, and the addresses behind them, answer for the whole. Assumes nothing.
use Rattle.std.proofs.Common.{◌/◌, eqb, length}
use Rattle.address_at.proofs.Blocks.{in_blocks}
use Rattle.address_at.proofs.listing.is_found.Goals as goal

pub loop-block-init : goal.loop-block-init
loop-block-init c =
    let others = c.args.others.now in
    rw (c.as_chunks.ensures.front, c.as_chunks.ensures.back)
    (in_blocks (λ other. eqb other c.args.address) 64 (length others / 64) others)
