-- Laws of the iterations: ov counts them, and so many iterations and then more are all of them together.
-- Each is by induction over the iterations. Assumes nothing.
use Rattle.std.proofs.Common.{◌≡◌, ℕ, zero, suc, ◌+◌, ◌++◌, refl, append_assoc, append-nil, add-zero, add-suc, add-one, arith}
use Rattle.addressgen.specs.declared.Settings.{Settings}
use Rattle.addressgen.specs.declared.State.{State}
use Rattle.addressgen.specs.Stepping.{Dimension, dimension0, dimension1, dimension2, along, advanced, next, after, addresses}

-- along whichever dimension, ov gains 1
advanced_rises : (s : Settings) (t : State) (d : Dimension) → (advanced s t d).ov ≡ t.ov + 1
advanced_rises s t dimension0 = refl
advanced_rises s t dimension1 = refl
advanced_rises s t dimension2 = refl

module _ (s : Settings) (t : State) where
  -- and with each iteration
  pub after_rises : (n : ℕ) → (after s t n).ov ≡ t.ov + n
  after_rises zero = omega arith
  after_rises (suc n) = omega (arith, advanced_rises s (after s t n) (along s (after s t n)), after_rises n)

  -- one iteration more
  pub steps_on : (n : ℕ) (here there : State) → here ≡ after s t n → there ≡ next s here → there ≡ after s t (n + 1)
  steps_on n here there e f = rw (add-one n, f, e)

  -- n iterations and then m
  pub after_adds : (n m : ℕ) → after s t (n + m) ≡ after s (after s t n) m
  after_adds n zero = rw (add-zero n)
  after_adds n (suc m) = rw (add-suc n m, after_adds n m)

  pub addresses_add : (n m : ℕ) → addresses s t (n + m) ≡ addresses s t n ++ addresses s (after s t n) m
  addresses_add n zero = rw (add-zero n, append-nil)
  addresses_add n (suc m) = rw (add-suc n m, addresses_add n m, after_adds n m, append_assoc)
