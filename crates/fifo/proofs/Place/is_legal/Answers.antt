-- `Place::is_legal` meets its contract: the tests are the definition's, evenness by halving and doubling. Assumes nothing.
use Rattle.fifo.proofs.Depths.{even_by_half}
use Rattle.fifo.proofs.Place.is_legal.Goals as goal

pub returns : goal.returns
returns c = rw (c.min_depth.ensures, even_by_half)
