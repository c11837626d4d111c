-- `offers` meets its contract. The loop's invariant: to the branches passed what they are offered, and nothing past them. Assumes nothing.
use mathlib.Core.Path.{◌≡◌}
use Rattle.lanes.specs.Lanes.{per_lane}
use Rattle.lanes.specs.Offers.{no_offer, offer_when}
use Rattle.lanes.specs.Wide.{lane}
use Rattle.lanes.proofs.branches.offers.Given as goal

abbrev pub invariant-loop-i : goal.invariant-loop-i
invariant-loop-i l = l.offers ≡ per_lane l.i no_offer (λ j. offer_when l.fn.offered (lane l.fn.wide j))
