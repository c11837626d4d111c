-- A part has a slot for each place of the deepest FIFO. Assumes nothing.
use mathlib.Core.Path.{sym, ◌∙◌}
use Prim.Native.Nat.{◌≤◌}
use lib.ListN.{length}
use Rattle.std.proofs.Common.{rules}
use Rattle.fifo.proofs.Lending.{lays_value}
use Rattle.fifo.specs.Queue.{max_depth}
use Rattle.chain.proofs.Used.{well_queue}
use Rattle.chain.proofs.laid.Part.lay.Goals as goal

pub returns : goal.returns
returns c =
    let part = c.args.self.now in
    let words : max_depth ≤ length part.words = search rules in
    let strbs : max_depth ≤ length part.strbs = search rules in
    let q = well_queue _ c.requires in
    lays_value _ _ _ q.0 _ _ _ q.1 words strbs c.laid_in-self.ensures ∙ sym q.1
