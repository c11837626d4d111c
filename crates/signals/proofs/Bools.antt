-- Laws of tests that proofs in every crate cite. Assumes nothing.
use Prim.Native.Nat.{ℕ}
use native.Mathlib.Omega.{arith}
use mathlib.Core.Path.{◌≡◌, refl, sym}
use mathlib.Core.Bool.{Bool, true, false, ◌&&◌, ◌||◌, beq, false≢true}
use mathlib.Core.Logic.{◌⊎◌, inl, inr}

-- 0 is not 1; where two constructors meet `cc` finds that it would be
pub clash : ◌≡◌ {A = ℕ} 0 1 → ⊥
clash z = omega arith

-- a test passed or failed
pub either : (b : Bool) → (b ≡ true) ⊎ (b ≡ false)
either true = inl refl
either false = inr refl

-- of two tests that passed together each passed
pub both : (a b : Bool) → a && b ≡ true → (a ≡ true) × (b ≡ true)
both true b p = (refl, p)
both false b p = absurd (false≢true p)

-- of two tests of which none passed each failed
pub neither : (a b : Bool) → a || b ≡ false → (a ≡ false) × (b ≡ false)
neither true b p = absurd (false≢true (sym p))
neither false b p = (refl, p)

-- a test has one result
pub not_both : (b : Bool) → b ≡ true → b ≡ false → ⊥
not_both true p q = false≢true (sym q)
not_both false p q = false≢true p

-- two tests that compare as equal are the same
pub beq_true : (a b : Bool) → beq a b ≡ true → a ≡ b
beq_true true true e = refl
beq_true true false e = absurd (false≢true e)
beq_true false true e = absurd (false≢true e)
beq_true false false e = refl

-- two tests of which each passes where the other does are the same
pub passes_alike : (a b : Bool) → (a ≡ true → b ≡ true) → (b ≡ true → a ≡ true) → a ≡ b
passes_alike true b p q = sym (p refl)
passes_alike false true p q = q refl
passes_alike false false p q = refl
