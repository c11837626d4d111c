-- A test as the fact that it tells: it passes exactly where the fact holds. One law for each way in which tests are put together.
-- Assumes nothing.
use Prim.Native.Nat.{ℕ, ◌<◌, ◌≤◌}
use mathlib.Core.Bool.{Bool, true, false, cond, not, ◌&&◌, ◌||◌, false≢true}
use mathlib.Core.Logic.{◌↔◌, ◌⊎◌, inl, inr, ⊎_elim}
use mathlib.Core.Path.{◌≡◌, refl, sym}
use lib.Dec.{eqb, leb, ltb}
use borrow.Author.Tests.{eqb-true, eq-eqb, leb-true, le-leb, ltb-true, lt-ltb, not-true}
use Rattle.signals.proofs.Bools.{both}

-- a test passes exactly where a fact holds
abbrev pub Tells : Bool → Type 0 → Type 0
Tells b P = (b ≡ true) ↔ P

pub tells_eq : (a b : ℕ) → Tells (eqb a b) (a ≡ b)
tells_eq a b = (eqb-true a b, eq-eqb a b)

pub tells_le : (a b : ℕ) → Tells (leb a b) (a ≤ b)
tells_le a b = (leb-true a b, le-leb a b)

pub tells_lt : (a b : ℕ) → Tells (ltb a b) (a < b)
tells_lt a b = (ltb-true a b, lt-ltb a b)

pub tells_on : (b : Bool) → Tells b (b ≡ true)
tells_on b = (λ e. e, λ e. e)

pub tells_off : (b : Bool) → Tells (not b) (b ≡ false)
tells_off b = (not-true b, λ e. rw e)

module _ {a b : Bool} {P Q : Type 0} (tells-a : Tells a P) (tells-b : Tells b Q) where
  -- two tests that must both pass
  pub tells_and : Tells (a && b) (P × Q)
  tells_and = (λ e. let w = both a b e in (tells-a.0 w.0, tells-b.0 w.1), λ f. rw (tells-a.1 f.0) (tells-b.1 f.1))

  -- two tests of which one must pass
  pub tells_or : Tells (a || b) (P ⊎ Q)
  tells_or = (one a b tells-a.0 tells-b.0, λ f. ⊎_elim (λ p. rw (tells-a.1 p)) (λ q. last a (tells-b.1 q)) f)
    where
      one : (a b : Bool) → (a ≡ true → P) → (b ≡ true → Q) → a || b ≡ true → P ⊎ Q
      one true b p q e = inl (p refl)
      one false b p q e = inr (q e)

      last : (a : Bool) → b ≡ true → a || b ≡ true
      last true e = refl
      last false e = e

  -- the one test where a flag is on, and the other where it is off
  pub tells_by : (flag : Bool) → Tells (cond flag a b) ((flag ≡ true → P) × (flag ≡ false → Q))
  tells_by true = (λ e. (λ t. tells-a.0 e, λ f. absurd (false≢true (sym f))), λ f. tells-a.1 (f.0 refl))
  tells_by false = (λ e. (λ t. absurd (false≢true t), λ f. tells-b.0 e), λ f. tells-b.1 (f.1 refl))

module _ {b : Bool} {Q : Type 0} (tells-b : Tells b Q) where
  -- a test that must pass where a flag is off
  pub tells_unless : (flag : Bool) → Tells (flag || b) (flag ≡ false → Q)
  tells_unless true = (λ e f. absurd (false≢true (sym f)), λ q. refl)
  tells_unless false = (λ e f. tells-b.0 e, λ q. tells-b.1 (q refl))

  -- a test that must pass where a flag is on
  pub tells_where : (flag : Bool) → Tells (not flag || b) (flag ≡ true → Q)
  tells_where true = (λ e f. tells-b.0 e, λ q. tells-b.1 (q refl))
  tells_where false = (λ e f. absurd (false≢true f), λ q. refl)
