-- A refused store yields the start address again: where a dimension with stride 0 first advances, the lower ones start again, its own
-- address gains nothing, and the higher ones have not advanced. Assumes nothing.
use Rattle.std.proofs.Common.{◌≡◌, ℕ, zero, suc, ◌*◌, ◌<◌, Bool, true, false, ltb, [], ◌∷◌, sym, refl, ◌∙◌, mul-le-mul_left, arith}
use Rattle.std.proofs.lemmas.Grind.{common_steps}
use mathlib.Core.Option.{some}
use Rattle.signals.specs.Tables.{◌⇐◌, first_applying}
use Rattle.addressgen.specs.declared.Settings.{Settings}
use Rattle.addressgen.specs.declared.State.{State}
use Rattle.addressgen.specs.Stepping.{bit0, bit1, start, Dimension, dimension0, dimension1, dimension2, advanced, after}
use Rattle.addressgen.specs.Overwriting.{stride, advances, overwrites_itself}
use Rattle.addressgen.specs.Run.{bad_mask, grounds}
use Rattle.addressgen.specs.Meaning.{Legal, along_at, YieldsTwice, RefusedYieldsTwice}
use Rattle.addressgen.proofs.Running.{given_refusal}
use Rattle.addressgen.proofs.Dimensions.{line_end, plane_end, line_made, plane_made, reaches2, along0_at, along1_at, along2_at}
use Rattle.addressgen.proofs.Advancing.{asked0, asked1, asked2}
use Rattle.addressgen.proofs.Overwriting.{in_place}

-- how far a dimension has come
abbrev pub come : State → Dimension → ℕ
come t dimension0 = t.a0
come t dimension1 = t.a1
come t dimension2 = t.a2

module _ (s : Settings) where
  -- a dimension at 0 stays there if it advances by nothing
  stays : (t : State) (d along : Dimension) → (along ≡ d → stride s d ≡ 0) → come t d ≡ 0 → come (advanced s t along) d ≡ 0
  stays t dimension0 along z h = grind (arith, common_steps)
  stays t dimension1 along z h = grind (arith, common_steps)
  stays t dimension2 along z h = grind (arith, common_steps)

  rests : (d : Dimension) (n : ℕ) → ((j : ℕ) → j < n → along_at s j ≡ d → stride s d ≡ 0) → come (after s start n) d ≡ 0
  rests dimension0 zero each = refl
  rests dimension1 zero each = refl
  rests dimension2 zero each = refl
  rests d (suc n) each =
      stays (after s start n) d (along_at s n) (each n (omega arith)) (rests d n (λ j h. each j (omega arith)))

  -- if no dimension has come anywhere after iteration i, the next one yields the start address
  again : (i : ℕ) → suc i < s.total → ((d : Dimension) → come (after s start (suc i)) d ≡ 0) → YieldsTwice s
  again i h zeros =
      record {
        first = 0;
        second = suc i;
        later = omega arith;
        made = h;
        same = simp (zeros dimension0, zeros dimension1, zeros dimension2);
      }

  module _ (legal : Legal s) where
    -- dimension 0 first advances in iteration 0, dimension 1 at the end of the first line, dimension 2 at that of the first plane
    repeats0 : s.s0 ≡ 0 → 1 < s.total → along_at s 0 ≡ dimension0 → YieldsTwice s
    repeats0 z h first = again 0 h (λ d. grind (arith, common_steps, rests dimension0 1))

    repeats1 :
        s.s1 ≡ 0 → bit0 s ≡ true → s.d0 < s.total → (bit1 s ≡ true → 1 < s.d1) → along_at s (line_end s 0) ≡ dimension1 →
        YieldsTwice s
    repeats1 z more h several end =
        again (line_end s 0) (omega (arith, line_made s legal more))
        (λ d. grind (arith, common_steps, rests dimension1 (suc (line_end s 0)) (λ j g e. z), rests dimension2 (suc (line_end s 0)) later))
      where
        -- the first plane does not end within its first line
        later : (j : ℕ) → j < suc (line_end s 0) → along_at s j ≡ dimension2 → s.s2 ≡ 0
        later j g e =
            let plane = reaches2 s legal j e in
            absurd (omega (arith, line_made s legal more, mul-le-mul_left s.d0 (several plane.1)))

    repeats2 :
        s.s2 ≡ 0 → bit0 s ≡ true → bit1 s ≡ true → s.d0 * s.d1 < s.total → along_at s (plane_end s) ≡ dimension2 →
        YieldsTwice s
    repeats2 z more all h end =
        again (plane_end s) (omega (arith, plane_made s legal more all))
        (λ d. grind (arith, common_steps, rests dimension2 (suc (plane_end s)) (λ j g e. z)))

    repeats : (d : Dimension) → advances s d ≡ true → stride s d ≡ 0 → YieldsTwice s
    repeats dimension0 e z = let a = asked0 s legal e in repeats0 z a.0 (along0_at s legal a.1)
    repeats dimension1 e z = let a = asked1 s legal e in repeats1 z a.0 a.1 a.2 (along1_at s legal a.0 a.2)
    repeats dimension2 e z = let a = asked2 s legal e in repeats2 z a.0 a.1 a.2 (along2_at s legal a.0 a.1)

-- 11 is given where its own ground applies and that of 10 does not
eleven_first : (mask overwriting state room : Bool) →
    first_applying {N = ℕ} (10 ⇐ mask ∷ 11 ⇐ overwriting ∷ 6 ⇐ state ∷ 7 ⇐ room ∷ []) ≡ some 11 → (mask ≡ false) × (overwriting ≡ true)
eleven_first mask overwriting state room e = grind (arith, common_steps)

pub refused_yields_twice_lem : RefusedYieldsTwice
refused_yields_twice_lem s t n room fits0 fits1 e =
    let first = sym (given_refusal s t n (first_applying (grounds s t n room))) ∙ e in
    let settings = eleven_first (bad_mask s) (overwrites_itself s) (ltb s.total t.ov) (ltb room n) first in
    let still = in_place s settings.1 in
    repeats s (record { d0_fits = fits0; d1_fits = fits1; mask = settings.0 }) still.0 still.1 still.2
