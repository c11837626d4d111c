-- Within the walk the FIFOs before `j` are as the rule leaves them (`Walking`); at its end the cycle is the rule's. Assumes nothing.
use mathlib.Core.Bool.{Bool}
use mathlib.Core.List.{List, map}
use mathlib.Core.Path.{◌≡◌, refl, sym, ◌∙◌}
use Prim.Native.Nat.{◌+◌, ◌<◌}
use native.Mathlib.Omega.{arith}
use lib.ListN.{length, length-map, drop}
use Rattle.std.proofs.lemmas.List.{get_or-map, map-set}
use Rattle.fifo.specs.Queue as queue
use Rattle.fifo.specs.Queue.{Queue}
use Rattle.fifo.proofs.Stepping.{Served}
use Rattle.chain.specs.Line.{mouth}
use Rattle.chain.specs.Cycles.{Cycle}
use Rattle.chain.specs.Cycling.{HandsOn}
use Rattle.chain.proofs.Used.{well_row}
use Rattle.chain.proofs.Walk.{front, walking_start, walking_on, walking_end, mouth_ready, mouth_sink}
use Rattle.chain.proofs.stage.walk.Goals as goal
use Rattle.chain.proofs.stage.walk.Goals.{then-j-stages, else-j-stages}

-- what is handed on in a cycle of this clear
served : (q : Queue) (c : Cycle) (after : queue.Value) (handed : Cycle) (clear : Bool) → c.clear ≡ clear → HandsOn q c after handed
    → Served q c.valid c.payload c.sink clear handed.valid handed.payload after
served q c after handed clear e s =
    rw (← e) (record { by_valid = s.valid; by_payload = s.payload; by_next = s.next; legal = s.legal })

pub loop-j-init : goal.loop-j-init
loop-j-init g c = (walking_start _ _ _ _ _ _ (well_row _ c.requires.stages_value) c.requires.payload_value, refl)

pub loop-j-preserved : goal.loop-j-preserved
loop-j-preserved g c =
    let l = c.loop-j in
    let value_of = g.S.Stage.value_of in
    let vs = map value_of l.stages in
    let long = length-map l.stages value_of in
    let inside : l.j < length l.stages = omega (arith, l.auto.stages, c.loop-j-test.true) in
    let fits : l.j < length vs = omega (arith, long, inside) in
    -- ready of what stands behind the FIFO: the next one's, or the sink's
    let behind : (others : List Queue) → drop (l.j + 1) vs ≡ map queue.well others → c.if-j-stages.sink ≡ mouth others c.args.cycle.sink =
    λ others e.
    elim c.if-j-stages.branch [
      | then-j-stages k ↦
          k.sink-is
          ∙ mouth_ready vs (l.j + 1) others _ _ (omega (arith, long, k.if-j-stages.true)) e
          (λ q has. k.is_ready-sink.ensures q (sym (get_or-map value_of l.stages (l.j + 1) _ queue.ill k.if-j-stages.true) ∙ has))
      | else-j-stages k ↦ k.sink-is ∙ mouth_sink vs (l.j + 1) others _ (omega (arith, long, k.if-j-stages.false)) e
    ]
    in
    let w = l.invariant.0 in
    let f = front vs l.j w.left fits w.split.from in
    let at_j = get_or-map value_of l.stages l.j _ queue.ill inside in (
      rw (map-set value_of l.stages l.j c.step-shown.new.self)
          (walking_on _ _ _ _ vs l.j l.shown.valid l.shown.payload c.if-j-stages.sink _ _
          (value_of c.step-shown.new.self)
          fits
          w
          behind
          (λ q has legal. served q _ _ c.step-shown.result _ l.invariant.1 (c.step-shown.ensures q (sym at_j ∙ has) legal))),
      (c.step-shown.ensures f.first (sym at_j ∙ f.has) w.legal).clear ∙ l.invariant.1,
    )

pub returns : goal.returns
returns g c =
    let l = c.loop-j in
    let vs = map g.S.Stage.value_of l.stages in
    let long = length-map l.stages g.S.Stage.value_of in
    let e = walking_end _ _ _ _ vs l.j _ _ (omega (arith, c.loop-j-test.false, c.requires.some)) (omega (arith, long, c.loop-j-test.false)) l.invariant.0 in
    record {
      valid = e.valid;
      payload = e.payload;
      sink = refl;
      clear = l.invariant.1;
      legal = l.invariant.0.legal;
      next = e.next;
    }
