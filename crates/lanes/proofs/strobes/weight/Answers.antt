-- `weight` meets its contract: one test over its whole table computes. Assumes nothing.
use Prim.Native.Nat.{ℕ, ◌+◌, ◌^◌}
use native.Mathlib.Omega.{arith}
use mathlib.Core.Bool.{Bool}
use mathlib.Core.List.{List, [], ◌∷◌}
use mathlib.Core.Path.{refl}
use borrow.Author.Tests.{eqb-true}
use lib.Dec.{eqb}
use lib.ListN.{get_or}
use Rattle.signals.proofs.Below.{each_below}
use Rattle.lanes.specs.Lanes.{max_lanes}
use Rattle.lanes.proofs.strobes.weight.Goals as goal

-- the table in the code, against the powers
abbrev weights : List ℕ
weights = 1 ∷ 16 ∷ 256 ∷ 4096 ∷ 65536 ∷ []

abbrev isPower : ℕ → Bool
isPower i = eqb (get_or weights i 0) (16 ^ i)

pub returns : goal.returns
returns c = let i = c.args.i in eqb-true (get_or weights i 0) (16 ^ i) (each_below isPower (max_lanes + 1) refl i (omega arith))
