-- `run`'s tests are those of the refusals, in order, and `fill` makes the iterations. Assumes nothing.
use Rattle.std.proofs.Common.{◌≤◌, length, sym, ◌∙◌, arith, le-ltb}
use Rattle.std.proofs.lemmas.List.{length-take-le}
use Rattle.addressgen.proofs.Running.{accepted_run}
use Rattle.addressgen.proofs.run.Goals as goal

pub returns : goal.returns
returns c =
    let a = c.args in
    let mask = sym c.bad_mask.ensures ∙ c.if-bad_mask.false in
    let advancing = sym c.overwrites_itself.ensures ∙ c.if-overwrites_itself.false in
    let legal = le-ltb a.settings.total a.state.ov (omega arith) in
    let room = le-ltb (length a.out.now) a.n (omega arith) in
    let within : c.iterations-count.result ≤ length a.out.now = omega arith in
    let filled = rw (length-take-le c.iterations-count.result a.out.now within) at c.fill-state.ensures in
    accepted_run a.settings a.state a.n a.out.now (simp (mask, advancing, legal, room))
    _ c.iterations-count.ensures _ filled.state _ (rw filled.written)
