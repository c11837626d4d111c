-- A FIFO in a part that has its form is not refused, and what it shows and keeps is the rule's. Assumes nothing.
use Rattle.fifo.proofs.Lending.{serves, never_refused}
use mathlib.Core.Path.{refl}
use Rattle.chain.proofs.laid.PartStage.step.Goals as goal

pub returns-in-Err : goal.returns-in-Err
returns-in-Err c q e legal = absurd (never_refused _ _ _ q _ _ _ _ _ _ _ e legal c.in-Err.ensures)

pub returns-in-Ok : goal.returns-in-Ok
returns-in-Ok c q e legal =
    let s = serves _ _ _ q _ _ _ _ _ _ _ e legal c.in-Ok.ensures in
    record { valid = s.by_valid; payload = s.by_payload; clear = refl; legal = s.legal; next = s.by_next }
