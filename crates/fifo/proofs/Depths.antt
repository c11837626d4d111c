-- Bounds of a legal place's depth and of its capacity. Assumes nothing.
use Prim.Native.Nat.{ℕ, ◌-◌, ◌≤◌, ◌/◌, ◌*◌, ◌%◌}
use native.Mathlib.Omega.{arith}
use mathlib.Core.Bool.{Bool, true, false, cond}
use mathlib.Core.Logic.{⊎_elim}
use mathlib.Core.Path.{◌≡◌, sym, ◌∙◌}
use borrow.Author.Tests.{leb-true, eq-eqb, ne_eqb, eqb-true, eqb-false}
use lib.Dec.{leb, eqb}
use Rattle.signals.proofs.Bools.{either, both}
use Rattle.fifo.specs.declared.Place.{Place}
use Rattle.fifo.specs.Queue.{capacity, min_depth, max_depth, legal_place}

-- a number that halving and doubling gives back is even
pub even_by_half : (n : ℕ) → eqb (n / 2 * 2) n ≡ eqb (n % 2) 0
even_by_half n = ⊎_elim even odd (either (eqb (n % 2) 0))
  where
    even : eqb (n % 2) 0 ≡ true → eqb (n / 2 * 2) n ≡ eqb (n % 2) 0
    even t = let z : n % 2 ≡ 0 = eqb-true (n % 2) 0 t in eq-eqb (n / 2 * 2) n (omega arith) ∙ sym t

    odd : eqb (n % 2) 0 ≡ false → eqb (n / 2 * 2) n ≡ eqb (n % 2) 0
    odd f = ne_eqb (n / 2 * 2) n (λ e. eqb-false (n % 2) 0 f (omega arith)) ∙ sym f

-- the least depth of its kind, and the deepest
depth_min : (place : Place) → legal_place place ≡ true → min_depth place ≤ place.depth
depth_min place e = leb-true (min_depth place) place.depth (both (leb (min_depth place) place.depth) _ e).0

pub depth_most : (place : Place) → legal_place place ≡ true → place.depth ≤ max_depth
depth_most place e =
    leb-true place.depth max_depth (both (leb place.depth max_depth) _ (both (leb (min_depth place) place.depth) _ e).1).0

-- no more are held than there are slots in the ring
pub capacity_most : (place : Place) → capacity place ≤ place.depth
capacity_most place = by_kind place.early_stall place.depth
  where
    by_kind : (early-stall : Bool) (depth : ℕ) → cond early-stall (depth - 1) depth ≤ depth
    by_kind true depth = omega arith
    by_kind false depth = omega arith

-- every FIFO has room for two
pub capacity_least : (place : Place) → legal_place place ≡ true → 2 ≤ capacity place
capacity_least place e = by_kind place.early_stall place.depth (depth_min place e)
  where
    by_kind : (early-stall : Bool) (depth : ℕ) → cond early-stall 4 2 ≤ depth → 2 ≤ cond early-stall (depth - 1) depth
    by_kind true depth least = omega (arith, least)
    by_kind false depth least = least

pub depth_least : (place : Place) → legal_place place ≡ true → 2 ≤ place.depth
depth_least place e = omega (arith, capacity_least place e, capacity_most place)
