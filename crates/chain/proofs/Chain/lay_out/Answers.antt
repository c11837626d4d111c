-- The parts before `j` hold what the FIFOs there hold, each of which has its form. Assumes nothing.
use mathlib.Core.Path.{◌≡◌, sym, ap, ◌∙◌}
use Prim.Native.Nat.{◌<◌}
use native.Mathlib.Omega.{arith}
use lib.Seq.{get_or-take}
use Rattle.fifo.specs.Queue.{empty, plain}
use Rattle.chain.specs.Promises.{line_of}
use Rattle.chain.proofs.Used.{formed, used_length, queue_at, value_used}
use Rattle.chain.proofs.Chain.lay_out.Goals as goal

pub shared_ref_as_front-fifo-items : goal.shared_ref_as_front-fifo-items
shared_ref_as_front-fifo-items c = (formed _ c.requires).most

pub lay-requires : goal.lay-requires
lay-requires c =
    let l = c.loop-j in
    let chain = c.args.self.now in
    let wide = l.invariant.wide in
    let f = formed chain c.requires in
    let inside : l.j < chain.count = omega (arith, c.loop-j-test.true, used_length chain f wide) in
    rw (get_or-take chain.count chain.fifos l.j _ inside, queue_at chain f wide l.j _ (empty (plain 2)) inside)

pub returns : goal.returns
returns c =
    let l = c.loop-j in
    let chain = c.args.self.now in
    let f = formed chain c.requires in
    let end : l.j ≡ chain.count = omega (arith, l.auto.j-end, c.loop-j-test.false, used_length chain f l.invariant.wide) in
    ap line_of (rw end at l.invariant.same) ∙ sym (value_used chain f.legal)
