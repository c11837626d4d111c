-- `fill` meets its contract: each piece lies behind those before it. Assumes nothing.
use Rattle.std.proofs.Common.{arith, ◌≡◌, ◌∙◌, ◌-◌, ◌≤◌, length}
use borrow.Rule.Slice.PartMut.{mid_of, same_len_mid}
use Rattle.vectors.proofs.Reading.{reads_on}
use Rattle.vectors.proofs.fill.Goals as goal

pub pieces-preserved : goal.pieces-preserved
pieces-preserved g c =
    let l = c.pieces in
    let long : length c.read.new.buf ≡ length (mid_of l.filled (length l.room - l.filled) l.room) = omega arith in
    let same = same_len_mid l.filled (length l.room - l.filled) l.room c.read.new.buf long in
    let fits : c.in-Ok.more ≤ length c.read.new.buf = c.in-Ok.ensures.bound.0 in
    (omega arith, same ∙ l.invariant.1, reads_on _ _ _ l.room c.read.new.buf _ l.filled c.in-Ok.more l.invariant.0 fits l.invariant.2 c.in-Ok.ensures.bytes.0)
