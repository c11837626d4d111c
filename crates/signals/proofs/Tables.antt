-- The first row that applies, as `first_applying` finds it and as `FirstIn` says it, are the same: by induction over the rows.
-- Assumes nothing.
use mathlib.Core.Bool.{Bool, true, false}
use mathlib.Core.List.{List, [], ◌∷◌, ◌++◌}
use mathlib.Core.Logic.{◌↔◌, ⊎_elim}
use mathlib.Core.Option.{none, some}
use mathlib.Core.Path.{◌≡◌, refl, ◌∙◌, ap}
use Rattle.signals.specs.Tables.{Row, ◌⇐◌, first_applying, NoneIn, FirstIn}
use Rattle.signals.proofs.Bools.{either, clash}

module _ {N : Type 0} where
  -- where no row applies none is the first
  pub keeps_none : (rows : List (Row N)) → NoneIn rows → first_applying rows ≡ none
  keeps_none [] k = refl
  keeps_none (row ∷ rows) k = rw k.0 (keeps_none rows k.1)

  -- where none is the first no row applies: each test failed
  pub none_keeps : (rows : List (Row N)) → first_applying rows ≡ none → NoneIn rows
  none_keeps [] e = tt
  none_keeps (row ∷ rows) e =
      ⊎_elim (λ t. let h = rw t at e in absurd (clash cc)) (λ f. (f, none_keeps rows (rw f at e))) (either row.applies)

  -- the first that applies stands behind rows that do not
  pub some_first : (rows : List (Row N)) (n : N) → first_applying rows ≡ some n → FirstIn rows n
  some_first [] n e = absurd (clash cc)
  some_first (row ∷ rows) n e = ⊎_elim this (λ f. later f (some_first rows n (rw f at e))) (either row.applies)
    where
      this : row.applies ≡ true → FirstIn (row ∷ rows) n
      this t =
          let same : row.name ≡ n = (let h = rw t at e in cc) in
          record { before = []; after = rows; stands = ap (λ (b : Bool). (row.name ⇐ b) ∷ rows) t ∙ ap (λ (m : N). (m ⇐ true) ∷ rows) same; earlier = tt }

      later : row.applies ≡ false → FirstIn rows n → FirstIn (row ∷ rows) n
      later f i =
          record {
            before = row ∷ i.before;
            after = i.after;
            stands = ap (λ (l : List (Row N)). row ∷ l) i.stands;
            earlier = (f, i.earlier);
          }

  pub first_some : (rows : List (Row N)) (n : N) → FirstIn rows n → first_applying rows ≡ some n
  first_some rows n i = rw i.stands (go i.before i.earlier)
    where
      go : (before : List (Row N)) → NoneIn before → first_applying (before ++ (n ⇐ true) ∷ i.after) ≡ some n
      go [] k = refl
      go (row ∷ before) k = rw k.0 (go before k.1)

  -- the two readings of the first row, and of none
  pub first_exactly : (rows : List (Row N)) (n : N) → (first_applying rows ≡ some n) ↔ FirstIn rows n
  first_exactly rows n = (some_first rows n, first_some rows n)

  pub none_exactly : (rows : List (Row N)) → (first_applying rows ≡ none) ↔ NoneIn rows
  none_exactly rows = (none_keeps rows, keeps_none rows)
