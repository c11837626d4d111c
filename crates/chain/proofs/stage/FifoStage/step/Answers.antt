-- A FIFO that has its form is not refused, and what it shows and keeps is the rule's. Assumes nothing.
use Rattle.fifo.proofs.Stepping.{trusted_serves, trusted_never_refused}
use mathlib.Core.Path.{refl}
use Rattle.chain.proofs.stage.FifoStage.step.Goals as goal

pub returns-in-Err : goal.returns-in-Err
returns-in-Err c q e legal = absurd (trusted_never_refused _ q _ _ _ _ _ e legal c.in-Err.ensures)

pub returns-in-Ok : goal.returns-in-Ok
returns-in-Ok c q e legal =
    let s = trusted_serves _ q _ _ _ _ _ e legal c.in-Ok.ensures in
    record { valid = s.by_valid; payload = s.by_payload; clear = refl; legal = s.legal; next = s.by_next }
