-- A turn copies one byte; at the end all are copied. Assumes nothing.
use native.Mathlib.Omega.{arith}
use mathlib.Core.Path.{◌≡◌}
use lib.ListN.{length}
use lib.Seq.{take-length}
use Rattle.exports.proofs.Copying.{copies_next}
use Rattle.exports.proofs.buffers.copy.Goals as goal

pub loop-i-preserved : goal.loop-i-preserved
loop-i-preserved c =
    let l = c.loop-i in
    copies_next _ _ _ l.i (omega arith) (omega arith) l.invariant

pub returns : goal.returns
returns c =
    let l = c.loop-i in
    let bytes = c.args.bytes.now in
    let e : l.i ≡ length bytes = omega arith in
    rw (take-length bytes) at (rw e at l.invariant)
