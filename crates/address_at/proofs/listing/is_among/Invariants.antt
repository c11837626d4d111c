-- What was found so far and the addresses that are left answer together for all of them. Assumes nothing.
use Rattle.std.proofs.Common.{◌≡◌, ◌||◌, drop}
use Rattle.address_at.specs.Overlap.{is_among}
use Rattle.address_at.proofs.listing.is_among.Given as goal

abbrev pub invariant-loop-other : goal.invariant-loop-other
invariant-loop-other l =
    l.found || is_among (drop l.other-index l.others) l.address ≡ is_among l.others l.address
