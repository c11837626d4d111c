-- The tables of document 01: rows of a number or a name, each with whether it applies, of which the first that applies counts.
-- Assumes nothing.
use Rattle.std.specs.Prelude.{Bool, true, false, cond, List, [], ◌∷◌, ◌++◌, ◌≡◌}
use Rattle.std.proofs.Math.Option.{Option, none, some}

pub record Row (N : Type 0) : Type 0 where
  pub name : N
  pub applies : Bool

module _ {N : Type 0} where
  -- n is given when b is true
  infix 70 ◌⇐◌
  abbrev pub ◌⇐◌ : N → Bool → Row N
  n ⇐ b = record { name = n; applies = b }

  -- the first that applies, if any does
  abbrev pub first_applying : List (Row N) → Option N
  first_applying [] = none
  first_applying (row ∷ rows) = cond row.applies (some row.name) (first_applying rows)

  -- none applies
  abbrev pub NoneIn : List (Row N) → Type 0
  NoneIn [] = Unit {0}
  NoneIn (row ∷ rows) = (row.applies ≡ false) × NoneIn rows

  -- n applies, and no row before it does
  pub record FirstIn (rows : List (Row N)) (n : N) : Type 0 where
    pub before : List (Row N)
    pub after : List (Row N)
    pub stands : rows ≡ before ++ (n ⇐ true) ∷ after
    pub earlier : NoneIn before
