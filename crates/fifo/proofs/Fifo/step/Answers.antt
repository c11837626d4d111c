-- `Fifo::step` meets its contract: a FIFO that was looked at steps as a trusted one, by `trusted_steps`. Assumes nothing.
use mathlib.Core.Path.{sym, ◌∙◌}
use Rattle.signals.specs.declared.Refusal.TheVariants.{BadState}
use Rattle.fifo.specs.Ring.{value}
use Rattle.fifo.proofs.Strobes.{well_queue}
use Rattle.fifo.proofs.Stepping.{refusal_steps, trusted_steps}
use Rattle.fifo.proofs.Fifo.step.Goals as goal

pub returns-then-not-is_well : goal.returns-then-not-is_well
returns-then-not-is_well c =
    let a = c.args in
    let g = a.cycle in
    refusal_steps value a.self g.valid g.sink g.clear g.payload BadState (rw (sym c.is_well.ensures ∙ c.if-not-is_well.true))

pub returns : goal.returns
returns c =
    let a = c.args in
    let g = a.cycle in
    let looked = well_queue (value a.self) (sym c.is_well.ensures ∙ c.if-not-is_well.false) in
    trusted_steps a.self looked.0 g.valid g.payload g.sink g.clear _ looked.1 c.step_trusted.ensures
