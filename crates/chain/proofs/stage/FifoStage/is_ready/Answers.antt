-- A FIFO that has its form is ready as its value says. Assumes nothing.
use mathlib.Core.Path.{◌∙◌}
use Rattle.fifo.proofs.Stepping.{ready_of_value}
use Rattle.chain.proofs.stage.FifoStage.is_ready.Goals as goal

pub returns : goal.returns
returns c q e = c.is_ready.ensures ∙ ready_of_value _ q e
