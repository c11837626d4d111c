-- A test that is computed at every number below a bound holds at each of them: by induction on the bound, its last number apart.
-- Assumes nothing.
use Prim.Native.Nat.{ℕ, zero, suc, ◌+◌, ◌<◌}
use native.Mathlib.Numerals.{add-one}
use native.Mathlib.Omega.{arith}
use mathlib.Core.Bool.{Bool, true, ◌&&◌}
use mathlib.Core.Logic.{⊎_elim}
use mathlib.Core.Path.{◌≡◌, refl}
use lib.Dec.{ltb}
use borrow.Author.Tests.{ltb-true, ltb-false}
use Rattle.signals.specs.Sequences.{every_below}
use Rattle.signals.proofs.Bools.{either, both}

pub each_below : (test : ℕ → Bool) (n : ℕ) → every_below test n ≡ true → (k : ℕ) → k < n → test k ≡ true
each_below test zero e k h = absurd (omega arith)
each_below test (suc n) e k h =
    let w = both (every_below test n) (test n) e in
    ⊎_elim (λ t. each_below test n w.0 k (ltb-true k n t)) (λ f. last (omega (arith, ltb-false k n f)) w.1) (either (ltb k n))
  where
    last : k ≡ n → test n ≡ true → test k ≡ true
    last q p = rw q p

-- a property that each number below n has is tested as passed
pub every_below_lem : (test : ℕ → Bool) (n : ℕ) → ((k : ℕ) → k < n → test k ≡ true) → every_below test n ≡ true
every_below_lem test zero each = refl
every_below_lem test (suc n) each = rw (every_below_lem test n (λ k h. each k (omega arith)), each n (omega arith))

-- one turn of a loop that looks at every number
pub every_joins : (test : ℕ → Bool) (i : ℕ) (all : Bool) → all ≡ every_below test i → all && test i ≡ every_below test (i + 1)
every_joins test i all so_far = rw (so_far, add-one i)
