-- Each iteration takes the state one on, and its address the place of a word that was there. Assumes nothing.
use Rattle.std.proofs.Common.{add-one, arith}
use Rattle.addressgen.proofs.Stepping.{after_rises}
use Rattle.signals.proofs.Writing.{writes_next}
use Rattle.addressgen.proofs.Generator.fill.Goals as goal

pub next-self-requires : goal.next-self-requires
next-self-requires c =
    let begun = c.args.self in
    rw c.loop-word.invariant.0 (omega (arith, after_rises begun.settings begun.state c.loop-word.word-index))

pub loop-word-preserved : goal.loop-word-preserved
loop-word-preserved c =
    let l = c.loop-word in
    let word = rw l.invariant.0 at c.address.ensures in (
      rw (c.next-self.ensures, l.invariant.0, add-one l.word-index),
      writes_next _ l.word-index _ _ (omega arith) l.invariant.1 _ word,
    )
