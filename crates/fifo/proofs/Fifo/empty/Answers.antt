-- `Fifo::empty` meets its contract, by `count_0_empty`. Assumes nothing.
use native.Mathlib.Omega.{arith}
use Rattle.fifo.proofs.Depths.{depth_least}
use Rattle.fifo.proofs.Form.{count_0_empty}
use Rattle.fifo.proofs.Fifo.empty.Goals as goal

pub returns : goal.returns
returns c = count_0_empty c.args.place 0 _ c.requires (omega (arith, depth_least c.args.place c.requires))
