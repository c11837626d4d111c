-- `Chain::new` keeps its promise: places make what the list makes that they were read off (`made_read`). Assumes nothing.
use Rattle.chain.proofs.Promising.{made_read}
use Rattle.chain.proofs.Chain.new.Goals as goal

pub returns : goal.returns
returns c = made_read c.args.places.now c.read.result c.at.result c.read.ensures c.at.ensures
