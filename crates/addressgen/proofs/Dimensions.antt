-- Which dimension an iteration advances along, by the counters at its number: the first of all along dimension 0, the end of a line
-- along dimension 1, the end of a plane along dimension 2; and what any iteration that advances so has come to. Assumes nothing.
use Rattle.std.proofs.Common.{◌≡◌, ℕ, suc, ◌+◌, ◌-◌, ◌*◌, ◌/◌, ◌%◌, ◌<◌, ◌≤◌, true, ap, ◌∙◌, mod-eq_of_lt, mul-le-mul_left, mul-suc, arith}
use Rattle.std.proofs.lemmas.Grind.{common_steps}
use native.Mathlib.Nat.{mod-le, mod-add-div}
use Rattle.addressgen.specs.declared.Settings.{Settings}
use Rattle.addressgen.specs.Stepping.{bit0, bit1, start, dimension0, dimension1, dimension2, after}
use Rattle.addressgen.specs.Meaning.{Legal, along_at}
use Rattle.addressgen.proofs.Counters.{remainder_in, quotient_in, c0_at, c1_at}

-- the last iteration of line r, and of the first plane
abbrev pub line_end : Settings → ℕ → ℕ
line_end s r = s.d0 - 1 + s.d0 * r

abbrev pub plane_end : Settings → ℕ
plane_end s = line_end s (s.d1 - 1)

module _ (s : Settings) (legal : Legal s) where
  -- a length that the mask asks for is not 0
  pub d0_positive : bit0 s ≡ true → 0 < s.d0
  d0_positive more = grind (arith, common_steps, legal.mask)

  pub d1_positive : bit0 s ≡ true → bit1 s ≡ true → 0 < s.d1
  d1_positive more all = grind (arith, common_steps, legal.mask)

  -- the counters of an iteration by its number
  counter0 : bit0 s ≡ true → (i : ℕ) → (after s start i).c0 ≡ i % s.d0 + 1
  counter0 more = c0_at s more (d0_positive more) legal.d0_fits

  counter1 : bit0 s ≡ true → bit1 s ≡ true → (i : ℕ) → (after s start i).c1 ≡ i / s.d0 % s.d1 + 1
  counter1 more all = c1_at s more (d0_positive more) legal.d0_fits all (d1_positive more all) legal.d1_fits

  module _ (i : ℕ) where
    -- where an iteration that advances along a dimension stands: within its line, at the end of it, and there within or at the end of its
    -- plane
    pub within_line : along_at s i ≡ dimension0 → bit0 s ≡ true → suc (i % s.d0) < s.d0
    within_line e more = grind (arith, common_steps, counter0 more i)

    pub at_line_end :
        along_at s i ≡ dimension1 →
        (bit0 s ≡ true) × (s.d0 ≤ suc (i % s.d0)) × (bit1 s ≡ true → suc (i / s.d0 % s.d1) < s.d1)
    at_line_end e = grind (arith, common_steps, counter0, counter1)

    pub at_plane_end :
        along_at s i ≡ dimension2 →
        (bit0 s ≡ true) × (bit1 s ≡ true) × (s.d0 ≤ suc (i % s.d0)) × (s.d1 ≤ suc (i / s.d0 % s.d1))
    at_plane_end e = grind (arith, common_steps, counter0, counter1)

    -- so what it has come to: a line of more than one, the end of a line, the end of a plane
    pub reaches0 : along_at s i ≡ dimension0 → bit0 s ≡ true → 1 < s.d0
    reaches0 e more = omega (arith, within_line e more)

    pub reaches1 : along_at s i ≡ dimension1 → (bit0 s ≡ true) × (s.d0 ≤ suc i) × (bit1 s ≡ true → 1 < s.d1)
    reaches1 e = grind (arith, common_steps, at_line_end e, mod-le i s.d0)

    pub reaches2 : along_at s i ≡ dimension2 → (bit0 s ≡ true) × (bit1 s ≡ true) × (s.d0 * s.d1 ≤ suc i)
    reaches2 e =
        let at = at_plane_end e in
        let lines : s.d1 ≤ i / s.d0 + 1 = omega (arith, at.3, mod-le (i / s.d0) s.d1) in
        (at.0, at.1, omega (arith, at.2, mod-add-div i s.d0, mul-le-mul_left s.d0 lines))

  -- the first iteration of all
  pub along0_at : (bit0 s ≡ true → 1 < s.d0) → along_at s 0 ≡ dimension0
  along0_at long = grind (arith, common_steps)

  module _ (more : bit0 s ≡ true) where
    line_number : bit1 s ≡ true → (r : ℕ) → (after s start (line_end s r)).c1 ≡ r % s.d1 + 1
    line_number all r =
        let p = d0_positive more in
        counter1 more all (line_end s r) ∙ ap (λ (line : ℕ). line % s.d1 + 1) (quotient_in s.d0 (s.d0 - 1) r (omega arith))

    -- the end of the first line comes after d0 iterations, that of the first plane after d0 times d1
    pub line_made : suc (line_end s 0) ≡ s.d0
    line_made = grind (arith, common_steps, d0_positive more)

    pub plane_made : bit1 s ≡ true → suc (plane_end s) ≡ s.d0 * s.d1
    plane_made all =
        let p = d0_positive more in
        let q = d1_positive more all in
        let lines : s.d0 * suc (s.d1 - 1) ≡ s.d0 * s.d1 = ap (λ (n : ℕ). s.d0 * n) (omega arith) in
        omega (arith, lines, mul-suc s.d0 (s.d1 - 1))

    pub along1_at : (bit1 s ≡ true → 1 < s.d1) → along_at s (line_end s 0) ≡ dimension1
    along1_at several = grind (arith, common_steps, counter0, line_number, remainder_in s.d0 (s.d0 - 1) 0, d0_positive more)

    pub along2_at : bit1 s ≡ true → along_at s (plane_end s) ≡ dimension2
    along2_at all =
        grind (
          arith,
          common_steps,
          counter0,
          line_number,
          remainder_in s.d0 (s.d0 - 1) (s.d1 - 1),
          d0_positive more,
          d1_positive more all,
          mod-eq_of_lt {n = s.d1 - 1} {m = s.d1},
        )
