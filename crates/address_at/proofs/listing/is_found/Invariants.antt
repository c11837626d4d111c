-- The blocks that are left and the addresses behind them answer for all. Assumes nothing.
use Rattle.std.proofs.Common.{◌≡◌, ◌||◌, drop}
use Rattle.signals.specs.Refusals.{any_of}
use Rattle.address_at.specs.Overlap.{is_among}
use Rattle.address_at.proofs.listing.is_found.Given as goal

abbrev pub invariant-loop-block : goal.invariant-loop-block
invariant-loop-block l =
    any_of (λ block. is_among block l.address) (drop l.block-index l.blocks) || is_among l.rest l.address ≡ is_among l.others l.address
