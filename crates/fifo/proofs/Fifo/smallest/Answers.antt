-- `Fifo::smallest` meets its contract: it holds nothing, so it has no strobe to look at. Assumes nothing.
use Rattle.fifo.proofs.Strobes.{value_of_trusted, empty_legal}
use Rattle.fifo.proofs.Fifo.smallest.Goals as goal

pub returns : goal.returns
returns c = value_of_trusted _ _ c.empty.ensures empty_legal
