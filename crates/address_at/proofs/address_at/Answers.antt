-- Refusals 10 and 11 come before 8. Assumes nothing.
use Rattle.std.proofs.Common.{[], ◌∷◌, leb}
use Rattle.std.proofs.lemmas.Result.{err_from_is_err_and}
use Rattle.signals.specs.Tables.{◌⇐◌}
use Rattle.address_at.proofs.Answers.{not_addressed}
use Rattle.address_at.proofs.address_at.Goals as goal

pub returns-in_err-legal : goal.returns-in_err-legal
returns-in_err-legal c =
    let p = err_from_is_err_and c.from_residual.result c.from_residual.ensures.1 in
    let a = c.args in
    rw (p.1, p.2)
    (not_addressed a.settings a.i _ (c.in_err-legal.ensures.refused (8 ⇐ leb a.settings.total a.i ∷ [])))
