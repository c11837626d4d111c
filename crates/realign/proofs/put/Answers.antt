-- `put` meets its contract: the packets moved up by m bytes behind nothing, and what the last leaves over, are the sink's words.
-- Assumes nothing.
use Prim.Native.Nat.{◌+◌, ◌-◌, ◌%◌}
use native.Mathlib.Omega.{arith}
use mathlib.Core.List.{◌∷◌, append-nil}
use mathlib.Core.Path.{◌∙◌}
use lib.ListN.{length}
use Rattle.std.proofs.lemmas.List.{drop_all}
use Rattle.std.proofs.lemmas.Grind.{common_steps}
use Rattle.signals.proofs.Writing.{writes_next}
use Rattle.realign.specs.From.{word_from}
use Rattle.realign.proofs.Answers.{remainder_less}
use Rattle.realign.proofs.Padded.{count_few, sink_words}
use Rattle.realign.proofs.put.Goals as goal

pub returns-then-n-out : goal.returns-then-n-out
returns-then-n-out c =
    let a = c.args in
    let m = a.address % 4 in
    let n = length a.packets.now in
    let moved = c.move_up-left.ensures in
    let few = (count_few m n).1 in
    writes_next (word_from (4 - m) (0 ∷ a.packets.now)) n a.out.now _ (omega arith) (rw moved.written) _ moved.left_over
    ∙ rw (
      sink_words m a.packets.now (remainder_less a.address) (n + 1) (omega arith),
      drop_all (n + 1) a.out.now (omega arith),
    ) (append-nil _)

pub returns-else-n-out : goal.returns-else-n-out
returns-else-n-out c =
    let a = c.args in
    let m = a.address % 4 in
    let n = length a.packets.now in
    grind (arith, common_steps, sink_words m a.packets.now (remainder_less a.address) n, count_few m n)
