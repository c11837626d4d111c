-- `strbgen::is_plan` meets its contract. The loop's invariant: whether the first, the last and those passed are the plan's.
-- Assumes nothing.
use mathlib.Core.Path.{◌≡◌}
use mathlib.Core.Bool.{◌&&◌}
use lib.Dec.{eqb}
use lib.ListN.{get_or}
use Rattle.signals.specs.Sequences.{every_below}
use Rattle.strbgen.proofs.is_plan.Given as goal

abbrev pub invariant-loop-strobe : goal.invariant-loop-strobe
invariant-loop-strobe l = l.same ≡ (l.initial.same && every_below (λ i. eqb (get_or l.between i 0) 15) l.strobe-index)
