-- A refused call is told by its empty part: an accepted part has as many cycles as were asked for, at least one. Idea: by cases of whether
-- the part is out of range. Assumes nothing.
use Prim.Native.Nat.{ℕ, ◌+◌, ◌<◌, ◌≤◌}
use native.Mathlib.Omega.{arith}
use mathlib.Core.Bool.{Bool, true, false}
use mathlib.Core.List.{List, []}
use mathlib.Core.Logic.{◌↔◌, ⊎_elim}
use mathlib.Core.Option.{Option, none, some}
use mathlib.Core.Path.{◌≡◌, ap}
use lib.ListN.{length, take, drop, length-take, length-drop}
use Rattle.std.proofs.lemmas.Bool.Decides.{nat_tests}
use Rattle.signals.specs.Tables.{first_applying}
use Rattle.signals.proofs.Bools.{either, clash}
use Rattle.mux.specs.Mux.{Trace, selected, out_of_range, grounds, muxed}

-- a part that is not out of range has a cycle and ends within its trace
pub in_range_lem : (cycles select first count : ℕ) → out_of_range cycles select first count ≡ false → (0 < count) × (first + count ≤ cycles)
in_range_lem cycles select first count e = grind (arith, nat_tests)

module _ (t0 t1 : Trace) (select first count : ℕ) where
  abbrev chosen : List ℕ
  chosen = (selected t0 t1 select).now

  abbrev past : Bool
  past = out_of_range (length chosen) select first count

  -- it is as long as was asked for
  long : past ≡ false → (0 < count) × (length (take count (drop first chosen)) ≡ count)
  long f =
      let h = in_range_lem (length chosen) select first count f in
      (h.0, simp (length-take, length-drop) (omega arith))

  -- the part answered is empty exactly when refusal 8 is given
  pub refused_is_empty : (first_applying (grounds t0 t1 select first count) ≡ some 8) ↔ ((muxed t0 t1 select first count).bytes ≡ [])
  refused_is_empty =
      ⊎_elim
      (λ (t : past ≡ true). (λ e. simp t, λ e. simp t))
      (λ (f : past ≡ false). (λ e. absurd (not_refused (simp f at e)), λ e. absurd (not_empty f (simp f at e))))
      (either past)
    where
      not_refused : ◌≡◌ {A = Option ℕ} none (some 8) → ⊥
      not_refused e = clash cc

      not_empty : past ≡ false → take count (drop first chosen) ≡ [] → ⊥
      not_empty f e = omega (arith, long f, ap length e)

  -- and one that is not empty is accepted, with as many cycles as were asked for
  pub accepted_is_long :
      ((muxed t0 t1 select first count).bytes ≡ [] → ⊥) →
      (first_applying (grounds t0 t1 select first count) ≡ none) × (length (muxed t0 t1 select first count).bytes ≡ count)
  accepted_is_long full =
      ⊎_elim (λ (t : past ≡ true). absurd (full (simp t))) (λ (f : past ≡ false). (simp f, simp f (long f).1)) (either past)
