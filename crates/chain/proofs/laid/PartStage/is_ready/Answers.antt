-- A FIFO in a part that has its form is ready as its value says. Assumes nothing.
use mathlib.Core.Path.{◌∙◌}
use Rattle.fifo.proofs.Lending.{ready_in_lem}
use Rattle.chain.proofs.laid.PartStage.is_ready.Goals as goal

pub returns : goal.returns
returns c q e = c.is_ready.ensures ∙ ready_in_lem _ _ _ q e
