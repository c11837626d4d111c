-- `Fifo::cycle` meets its contract: the answer is the turn's, in the FIFO's own slots. Assumes nothing.
use native.Mathlib.Omega.{arith}
use mathlib.Core.Path.{◌≡◌, sym, ap, ◌∙◌}
use lib.ListN.{length}
use Rattle.std.proofs.lemmas.Grind.{common_steps}
use Rattle.fifo.specs.Queue.{max_depth}
use Rattle.fifo.specs.Ring.{pointers_of, fifo_with, trusted}
use Rattle.fifo.specs.Turn.{shown_from, set_at}
use Rattle.fifo.proofs.Form.{depth_within}
use Rattle.fifo.proofs.Turning.{turn_answers}
use Rattle.fifo.proofs.Fifo.cycle.Goals as goal
use Rattle.fifo.proofs.Fifo.cycle.Goals.{in-Some, in-None, in-Some-joined, in_default}

pub returns : goal.returns
returns c =
    let f = c.args.self in
    let g = c.args.given in
    let t = c.turn-turn.result in
    let shown = rw c.pointers-pointers.ensures at c.shown-shown.ensures in
    let turns = rw c.pointers-pointers.ensures at c.turn-turn.ensures in
    let shows : (c.match-shown.shown ≡ c.shown-shown.result) × (c.match-shown.payload ≡ shown_from f.slots c.shown-shown.result) =
    elim c.match-shown.branch [
      | in-Some w ↦ (w.shown-is ∙ sym w.in-Some.is, rw w.in-Some.is w.payload-is)
      | in-None w ↦ (w.shown-is, rw w.in-None.is w.payload-is)
    ]
    in
    let writes : c.match-turn.slots ≡ set_at f.slots t.joined g.payload =
    elim c.match-turn.branch [ in-Some-joined w ↦ rw w.in-Some-joined.is w.slots-is | in_default w ↦ rw w.in_default.is w.slots-is ]
    in
    let full : length f.slots ≡ max_depth = omega arith in
    turn_answers (pointers_of f) f.slots g.valid g.payload g.sink g.clear _ t _ _ _
    (omega (arith, full, depth_within f c.requires))
    shown turns (grind (arith, common_steps, shows.0)) shows.1
    (ap trusted (c.with_slots.ensures ∙ ap (fifo_with t.next) writes))
