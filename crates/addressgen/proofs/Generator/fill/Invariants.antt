-- The loop's invariant: the state is the one after the iterations made, and the buffer holds their addresses, and behind them what it
-- held. Assumes nothing.
use Rattle.std.proofs.Common.{◌≡◌, ◌++◌, drop}
use Rattle.addressgen.specs.Stepping.{after, addresses}
use Rattle.addressgen.proofs.Generator.fill.Given as goal

abbrev pub invariant-loop-word : goal.invariant-loop-word
invariant-loop-word l =
    let begun = l.initial.self in
    (l.self ≡ record begun { state = after begun.settings begun.state l.word-index })
    × (l.out ≡ addresses begun.settings begun.state l.word-index ++ drop l.word-index l.initial.out)
