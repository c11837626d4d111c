-- One turn of a loop that looks for an entry with a property: what is left, looked through from here, answers for the whole.
-- `past` is what a list is said to have past its end. Assumes nothing.
use mathlib.Core.Path.{◌≡◌, refl, ◌∙◌}
use mathlib.Core.Bool.{Bool, true, false, ◌||◌}
use mathlib.Core.List.{List}
use Prim.Native.Nat.{ℕ, ◌+◌, ◌<◌, ◌≤◌}
use native.Mathlib.Numerals.{add-one}
use lib.ListN.{length, drop, get_or, drop_of_length-le}
use lib.Seq.{drop-cons}
use Rattle.signals.specs.Refusals.{any_of}

module _ {A : Type 0} (past : A) (has : A → Bool) (i : ℕ) (xs : List A) (b : Bool) (so_far : any_of has (drop i xs) ≡ b) where
  turn : i < length xs → has (get_or xs i past) || any_of has (drop (i + 1) xs) ≡ b
  turn h = rw (add-one i) (rw (drop-cons xs i past h) at so_far)

  pub any_found : i < length xs → has (get_or xs i past) ≡ true → true ≡ b
  any_found h e = rw e at (turn h)

  pub any_goes : i < length xs → has (get_or xs i past) ≡ false → any_of has (drop (i + 1) xs) ≡ b
  any_goes h e = rw e at (turn h)

  pub any_ends : length xs ≤ i → false ≡ b
  any_ends h = rw (drop_of_length-le xs h) at so_far

-- a loop that looks at every entry: what was found and what is left answer together
module _ {A : Type 0} (past : A) (has : A → Bool) (i : ℕ) (xs : List A) (any b : Bool) (so_far : any || any_of has (drop i xs) ≡ b) where
  pub any_joins : i < length xs → (any || has (get_or xs i past)) || any_of has (drop (i + 1) xs) ≡ b
  any_joins h = regroups any (has (get_or xs i past)) (any_of has (drop (i + 1) xs)) (turn past has i xs (any_of has (drop i xs)) refl h) so_far
    where
      regroups : (p q r : Bool) → q || r ≡ any_of has (drop i xs) → p || any_of has (drop i xs) ≡ b → (p || q) || r ≡ b
      regroups true q r e f = f
      regroups false q r e f = e ∙ f

  pub any_all : length xs ≤ i → any ≡ b
  any_all h = ends any (rw (drop_of_length-le xs h) at so_far)
    where
      ends : (p : Bool) → p || false ≡ b → p ≡ b
      ends true e = e
      ends false e = e
