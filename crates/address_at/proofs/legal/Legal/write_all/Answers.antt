-- Each address takes the place of what was there. Assumes nothing.
use Rattle.std.proofs.Common.{arith}
use Rattle.signals.proofs.Writing.{writes_next}
use Rattle.address_at.proofs.legal.Legal.write_all.Goals as goal

pub loop-i-preserved : goal.loop-i-preserved
loop-i-preserved c = writes_next _ c.loop-i.i _ _ (omega arith) c.loop-i.invariant _ c.address.ensures
