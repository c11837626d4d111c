-- What is gathered is what lies in the part. Assumes nothing.
use Rattle.fifo.proofs.Lending.{gathers_value}
use Rattle.chain.proofs.laid.Part.gathered.Goals as goal

pub returns : goal.returns
returns c = gathers_value _ _ _ _ c.gathered.ensures
