-- `move_up` meets its contract. The invariant: the words moved so far stand in the buffer, behind them what it held, and the word before
-- the next one is at hand. Assumes nothing.
use mathlib.Core.List.{◌∷◌, ◌++◌}
use mathlib.Core.Path.{◌≡◌}
use Prim.Native.Nat.{◌-◌}
use lib.ListN.{get_or, drop}
use Rattle.signals.specs.Sequences.{entries_below}
use Rattle.realign.specs.From.{word_from}
use Rattle.realign.proofs.shift.move_up.Given as goal

abbrev pub invariant-loop-i : goal.invariant-loop-i
invariant-loop-i l =
    (l.out ≡ entries_below (word_from (4 - l.bytes) (l.before ∷ l.words)) l.i ++ drop l.i l.initial.out)
    × (l.previous ≡ get_or (l.before ∷ l.words) l.i 0)
