-- A turn writes one branch's offer; at the end every branch has its own. Assumes nothing.
use native.Mathlib.Omega.{arith}
use Rattle.lanes.specs.Offers.{no_offer, offer_when}
use Rattle.lanes.specs.Wide.{lane}
use Rattle.lanes.proofs.PerLane.{writes_lane}
use Rattle.lanes.proofs.branches.offers.Goals as goal

pub loop-i-preserved : goal.loop-i-preserved
loop-i-preserved c =
    let l = c.loop-i in
    writes_lane no_offer (λ j. offer_when c.args.offered (lane c.args.wide j)) l.i l.offers _ (omega arith) l.invariant c.offer.ensures
