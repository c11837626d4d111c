-- An iteration before the last one advances along a dimension exactly when the request's clause says so: the clause's tests are what
-- such an iteration has come to, and the first that comes to it advances. Assumes nothing.
use Rattle.std.proofs.Common.{◌≡◌, ◌*◌, ◌<◌, true, arith}
use Rattle.std.proofs.lemmas.Grind.{common_steps}
use Rattle.addressgen.specs.declared.Settings.{Settings}
use Rattle.addressgen.specs.Stepping.{bit0, bit1, Dimension, dimension0, dimension1, dimension2}
use Rattle.addressgen.specs.Overwriting.{advances}
use Rattle.addressgen.specs.Meaning.{Legal, Advances, AdvancesExactly}
use Rattle.addressgen.proofs.Dimensions as dimensions
use Rattle.addressgen.proofs.Dimensions.{line_end, plane_end}

module _ (s : Settings) (legal : Legal s) where
  -- what each clause asks
  pub asked0 : advances s dimension0 ≡ true → (1 < s.total) × (bit0 s ≡ true → 1 < s.d0)
  asked0 e = grind (arith, common_steps)

  pub asked1 : advances s dimension1 ≡ true → (bit0 s ≡ true) × (s.d0 < s.total) × (bit1 s ≡ true → 1 < s.d1)
  asked1 e = grind (arith, common_steps, dimensions.d1_positive s legal)

  pub asked2 : advances s dimension2 ≡ true → (bit0 s ≡ true) × (bit1 s ≡ true) × (s.d0 * s.d1 < s.total)
  asked2 e = grind (arith, common_steps)

  -- so the clause holds where an iteration before the last one advances along its dimension
  clause_holds : (d : Dimension) → Advances s d → advances s d ≡ true
  clause_holds dimension0 a = grind (arith, common_steps, dimensions.reaches0 s legal a.iteration a.goes_along)
  clause_holds dimension1 a = grind (arith, common_steps, dimensions.reaches1 s legal a.iteration a.goes_along)
  clause_holds dimension2 a = grind (arith, common_steps, dimensions.reaches2 s legal a.iteration a.goes_along)

  -- and where it holds some iteration does
  advances_by : (d : Dimension) → advances s d ≡ true → Advances s d
  advances_by dimension0 e =
      let asked = asked0 e in
      record { iteration = 0; before_last = omega arith; goes_along = dimensions.along0_at s legal asked.1 }
  advances_by dimension1 e =
      let asked = asked1 e in
      record {
        iteration = line_end s 0;
        before_last = omega (arith, dimensions.line_made s legal asked.0);
        goes_along = dimensions.along1_at s legal asked.0 asked.2;
      }
  advances_by dimension2 e =
      let asked = asked2 e in
      record {
        iteration = plane_end s;
        before_last = omega (arith, dimensions.plane_made s legal asked.0 asked.1);
        goes_along = dimensions.along2_at s legal asked.0 asked.1;
      }

pub advances_exactly_lem : AdvancesExactly
advances_exactly_lem s d legal = (advances_by s legal d, clause_holds s legal d)
