-- The FIFOs before `j` hold what the parts there hold. Assumes nothing.
use mathlib.Core.Path.{◌≡◌, ap, ◌∙◌}
use native.Mathlib.Omega.{arith}
use Rattle.std.proofs.lemmas.List.{length-take}
use Rattle.chain.specs.Promises.{line_of}
use Rattle.chain.proofs.Used.{value_used}
use Rattle.chain.proofs.Chain.gather.Goals as goal

pub returns : goal.returns
returns c =
    let l = c.loop-j in
    let v = l.invariant in
    let end : l.j ≡ l.self.count = omega (arith, l.auto.j-end, c.loop-j-test.false, v.count, length-take c.args.self.now.count c.args.parts.now) in
    rw (← v.count) (value_used l.self (rw v.count c.requires) ∙ ap line_of (rw end at v.same))
