-- Within the walk the FIFOs before `j` are as the rule leaves them (`Walking`). Assumes nothing.
use mathlib.Core.List.{map}
use mathlib.Core.Path.{◌≡◌}
use Rattle.chain.specs.Cycles.{offered}
use Rattle.chain.specs.Calls.{queues}
use Rattle.chain.specs.Promises.{line_of}
use Rattle.chain.proofs.Walk.{Walking}
use Rattle.chain.proofs.stage.walk.Given as goal

abbrev pub invariant-loop-j : goal.invariant-loop-j
invariant-loop-j g l =
    let value_of = g.S.Stage.value_of in
    Walking l.cycle.clear (queues (line_of (map value_of l.initial.stages))) (offered l.cycle) l.cycle.sink (map value_of l.stages) l.j l.shown.valid l.shown.payload
    × (l.shown.clear ≡ l.cycle.clear)
