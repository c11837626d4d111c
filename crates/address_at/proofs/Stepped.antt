-- The address by number is that of the iteration that is stepped to: an iteration along a dimension takes one step of it, starts those
-- before it again and leaves those behind it, and so do the quotients and remainders when the number gains 1. Assumes nothing.
use Prim.Native.Nat.{ℕ, zero, suc, ◌+◌, ◌*◌, ◌/◌, ◌%◌, ◌^◌, ◌≤◌}
use native.Mathlib.Nat.{zero-mod, zero-div, zero-mul, suc-mul, div-div-eq-div-mul}
use native.Mathlib.Omega.{arith}
use mathlib.Core.Bool.{true, false}
use mathlib.Core.Logic.{⊎_elim}
use mathlib.Core.Path.{◌≡◌, refl, sym}
use Rattle.std.proofs.lemmas.Grind.{common_steps}
use Rattle.signals.proofs.Bools.{either}
use Rattle.addressgen.specs.declared.Settings.{Settings}
use Rattle.addressgen.specs.declared.State.{State}
use Rattle.addressgen.specs.Stepping.{◌⊕◌, bit0, bit1, start, Dimension, dimension0, dimension1, dimension2, advanced, after}
use Rattle.addressgen.specs.Overwriting.{stride}
use Rattle.addressgen.specs.Meaning.{Legal, along_at, address_at}
use Rattle.addressgen.proofs.Counters.{same_line, next_line}
use Rattle.addressgen.proofs.Dimensions.{d0_positive, d1_positive, within_line, at_line_end, at_plane_end}
use Rattle.addressgen.proofs.Repeating.{come}
use Rattle.address_at.specs.ByNumber.{address_of}
use Rattle.address_at.specs.Meaning.{NumberedIsStepped}

-- what becomes of the steps of dimension d, n before and m after, when an iteration advances along a dimension
abbrev Moves : (along d : Dimension) → (n m : ℕ) → Type 0
Moves dimension0 dimension0 n m = m ≡ suc n
Moves dimension0 dimension1 n m = m ≡ n
Moves dimension0 dimension2 n m = m ≡ n
Moves dimension1 dimension0 n m = m ≡ 0
Moves dimension1 dimension1 n m = m ≡ suc n
Moves dimension1 dimension2 n m = m ≡ n
Moves dimension2 dimension0 n m = m ≡ 0
Moves dimension2 dimension1 n m = m ≡ 0
Moves dimension2 dimension2 n m = m ≡ suc n

-- how far so many steps of a stride go
abbrev gone : ℕ → ℕ → ℕ
gone steps stride = steps * stride % 2 ^ 32

-- sums that are taken modulo 2^32 one after another are taken modulo 2^32 at the end
joins : (along x y a : ℕ) → along % 2 ^ 32 ≡ x % 2 ^ 32 → a ≡ y % 2 ^ 32 → along ⊕ a ≡ (x + y) % 2 ^ 32
joins along x y a e f = omega (arith, e, f)

module _ (s : Settings) where
  -- so a dimension that had gone its steps has gone them afterwards
  moves :
      (t : State) (along d : Dimension) (n m : ℕ) → Moves along d n m → come t d ≡ gone n (stride s d) →
      come (advanced s t along) d ≡ gone m (stride s d)
  moves t dimension0 d n m f e = grind (arith, common_steps, zero-mul, suc-mul)
  moves t dimension1 d n m f e = grind (arith, common_steps, zero-mul, suc-mul)
  moves t dimension2 d n m f e = grind (arith, common_steps, zero-mul, suc-mul)

  -- steps by number that begin with none and move as the iterations do are those that are gone
  module _
      (steps : ℕ → Dimension → ℕ) (none : (d : Dimension) → steps 0 d ≡ 0)
      (each : (i : ℕ) (d : Dimension) → Moves (along_at s i) d (steps i d) (steps (suc i) d))
    where
      goes : (i : ℕ) (d : Dimension) → come (after s start i) d ≡ gone (steps i d) (stride s d)
      goes zero dimension0 = rw (none dimension0, zero-mul s.s0)
      goes zero dimension1 = rw (none dimension1, zero-mul s.s1)
      goes zero dimension2 = rw (none dimension2, zero-mul s.s2)
      goes (suc i) d = moves (after s start i) (along_at s i) d (steps i d) (steps (suc i) d) (each i d) (goes i d)

-- the steps of iteration i in one dimension, in lines of d0, and in planes of d1 lines
abbrev in_one : ℕ → Dimension → ℕ
in_one i dimension0 = i
in_one i dimension1 = 0
in_one i dimension2 = 0

abbrev in_lines : ℕ → ℕ → Dimension → ℕ
in_lines d0 i dimension0 = i % d0
in_lines d0 i dimension1 = i / d0
in_lines d0 i dimension2 = 0

abbrev in_planes : ℕ → ℕ → ℕ → Dimension → ℕ
in_planes d0 d1 i dimension0 = i % d0
in_planes d0 d1 i dimension1 = i / d0 % d1
in_planes d0 d1 i dimension2 = i / d0 / d1

module _ (s : Settings) (legal : Legal s) where
  -- in one dimension each iteration advances along it
  module _ (one : bit0 s ≡ false) where
    one_moves : (i : ℕ) (along : Dimension) → along_at s i ≡ along → (d : Dimension) → Moves along d (in_one i d) (in_one (suc i) d)
    one_moves i along e d = grind (arith, common_steps, at_line_end s legal i, at_plane_end s legal i)

    one_none : (d : Dimension) → in_one 0 d ≡ 0
    one_none d = grind (arith, common_steps)

    in_one_lem : (i : ℕ) → address_of s i ≡ address_at s i
    in_one_lem i =
        let come-to = goes s in_one one_none (λ i d. one_moves i (along_at s i) refl d) i in
        simp one (omega (arith, come-to dimension0))

  module _ (more : bit0 s ≡ true) where
    abbrev d0 : ℕ
    d0 = s.d0

    -- what one on does to the place in a line, and to the number of the line
    goes_on_in_line : (i : ℕ) → along_at s i ≡ dimension0 → (suc i % d0 ≡ suc (i % d0)) × (suc i / d0 ≡ i / d0)
    goes_on_in_line i e = same_line d0 i (within_line s legal i e more)

    begins_line : (i : ℕ) → d0 ≤ suc (i % d0) → (suc i % d0 ≡ 0) × (suc i / d0 ≡ suc (i / d0))
    begins_line i h = next_line d0 i (d0_positive s legal more) h

    module _ (two : bit1 s ≡ false) where
      two_moves : (i : ℕ) (along : Dimension) → along_at s i ≡ along → (d : Dimension) → Moves along d (in_lines d0 i d) (in_lines d0 (suc i) d)
      two_moves i along e d = grind (arith, common_steps, goes_on_in_line i, begins_line i, at_line_end s legal i, at_plane_end s legal i)

      two_none : (d : Dimension) → in_lines d0 0 d ≡ 0
      two_none d = grind (arith, common_steps)

      in_lines_lem : (i : ℕ) → address_of s i ≡ address_at s i
      in_lines_lem i =
          let come-to = goes s (in_lines d0) two_none (λ i d. two_moves i (along_at s i) refl d) i in
          simp (more, two) (omega (arith, come-to dimension0, come-to dimension1))

    module _ (three : bit1 s ≡ true) where
      abbrev d1 : ℕ
      d1 = s.d1

      -- the same of a line in its plane, and of the number of the plane
      begins_plane : (line : ℕ) → d1 ≤ suc (line % d1) → (suc line % d1 ≡ 0) × (suc line / d1 ≡ suc (line / d1))
      begins_plane line h = next_line d1 line (d1_positive s legal more three) h

      three_moves : (i : ℕ) (along : Dimension) → along_at s i ≡ along → (d : Dimension) → Moves along d (in_planes d0 d1 i d) (in_planes d0 d1 (suc i) d)
      three_moves i along e d =
          grind (
            arith,
            common_steps,
            goes_on_in_line i,
            begins_line i,
            at_line_end s legal i,
            at_plane_end s legal i,
            same_line d1 (i / d0),
            begins_plane (i / d0),
          )

      three_none : (d : Dimension) → in_planes d0 d1 0 d ≡ 0
      three_none d = grind (arith, common_steps, zero-div d0, zero-mod d1, zero-div d1)

      in_planes_lem : (i : ℕ) → address_of s i ≡ address_at s i
      in_planes_lem i =
          let come-to = goes s (in_planes d0 d1) three_none (λ i d. three_moves i (along_at s i) refl d) i in
          let t : State = after s start i in
          let along0 = joins s.base s.base (i % d0 * s.s0) t.a0 refl (come-to dimension0) in
          let along1 = joins (s.base ⊕ t.a0) (s.base + i % d0 * s.s0) (i / d0 % d1 * s.s1) t.a1 (omega (arith, along0)) (come-to dimension1) in
          let along2 =
          joins (s.base ⊕ t.a0 ⊕ t.a1) (s.base + i % d0 * s.s0 + i / d0 % d1 * s.s1) (i / d0 / d1 * s.s2) t.a2 (omega (arith, along1))
          (come-to dimension2) in
          simp (more, three) (sym (rw (div-div-eq-div-mul i d0 d1) at along2))

pub numbered_is_stepped_lem : NumberedIsStepped
numbered_is_stepped_lem s legal i =
    ⊎_elim
    (λ more. ⊎_elim (λ three. in_planes_lem s legal more three i) (λ two. in_lines_lem s legal more two i) (either (bit1 s)))
    (λ one. in_one_lem s legal one i)
    (either (bit0 s))
