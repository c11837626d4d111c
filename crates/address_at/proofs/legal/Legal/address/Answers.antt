-- Its tests are the definition's, two quotients are that by the product, and steps that are added up modulo 2^32 one dimension after
-- another are added up modulo 2^32 at the end. Assumes nothing.
use Rattle.std.proofs.Common.{sym, ◌∙◌, arith}
use native.Mathlib.Nat.{div-div-eq-div-mul}
use Rattle.address_at.proofs.legal.Legal.address.Goals as goal

pub returns : goal.returns
returns c =
    let s = c.args.self.settings in
    let lines = sym c.bit0.ensures ∙ c.if-not-bit0.false in
    let planes = sym c.bit1.ensures ∙ c.if-not-bit1.false in
    let plane = rw (div-div-eq-div-mul c.args.i s.d0 s.d1) at c.steps_on-2.ensures in
    simp (lines, planes) (omega (arith, c.steps_on-along0.ensures, c.steps_on-along1.ensures, plane))
