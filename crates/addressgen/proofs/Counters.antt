-- The counters by the number of the iteration, from the start state: c0 counts i % d0 and c1 counts i / d0 % d1, each from 1. A counter
-- that has reached its length starts again just where the remainder does, and with it the quotient gains 1. Assumes nothing.
use Rattle.std.proofs.Common.{◌≡◌, ℕ, zero, suc, ◌+◌, ◌*◌, ◌/◌, ◌%◌, ◌^◌, ◌<◌, ◌≤◌, true, false, cond, ltb, ap, ◌∙◌, ⊎_elim, mod-lt, mod-eq_of_lt, arith, ltb-false, ltb-true}
use Rattle.std.proofs.lemmas.Grind.{common_steps}
use native.Mathlib.Nat.{zero-mod, zero-div, mod-add-div, div-eq_of_lt, add-mul-div_left, add-mul-mod_self_left}
use Rattle.signals.proofs.Bools.{either}
use Rattle.addressgen.specs.declared.Settings.{Settings}
use Rattle.addressgen.specs.declared.State.{State}
use Rattle.addressgen.specs.Stepping.{◌⊕◌, bit0, bit1, start, next, after}

-- the remainder and the quotient of q in line r of length d
pub remainder_in : (d q r : ℕ) → q < d → (q + d * r) % d ≡ q
remainder_in d q r h = add-mul-mod_self_left q d r ∙ mod-eq_of_lt h

pub quotient_in : (d q r : ℕ) → q < d → (q + d * r) / d ≡ r
quotient_in d q r h = add-mul-div_left q r (omega arith) ∙ ap (λ (k : ℕ). k + r) (div-eq_of_lt h) ∙ omega arith

module _ (d i : ℕ) where
  -- within a line one on is one on in it
  pub same_line : suc (i % d) < d → (suc i % d ≡ suc (i % d)) × (suc i / d ≡ i / d)
  same_line h = grind (arith, common_steps, remainder_in d (suc (i % d)) (i / d) h, quotient_in d (suc (i % d)) (i / d) h, mod-add-div i d)

  -- at the end of a line the next one begins
  pub next_line : 0 < d → d ≤ suc (i % d) → (suc i % d ≡ 0) × (suc i / d ≡ suc (i / d))
  next_line p h =
      grind (arith, common_steps, remainder_in d 0 (suc (i / d)) p, quotient_in d 0 (suc (i / d)) p, mod-add-div i d, mod-lt i p)

-- a counter that gains 1 below its length d, and else starts again
abbrev counted : ℕ → ℕ → ℕ
counted d c = cond (ltb c d) (c ⊕ 1) 1

-- a counter of remainders from 1 goes on as one: its length is below 2^32, so that it does not wrap
counts_on : (d i c : ℕ) → 0 < d → d < 2 ^ 32 → c ≡ i % d + 1 → counted d c ≡ suc i % d + 1
counts_on d i c p fits e = ⊎_elim within at_end_lem (either (ltb c d))
  where
    within : ltb c d ≡ true → counted d c ≡ suc i % d + 1
    within t =
        let h = ltb-true c d t in
        let on = same_line d i (omega arith) in
        rw t (mod-eq_of_lt {n = c + 1} {m = 2 ^ 32} (omega arith) ∙ omega (arith, on.0))

    at_end_lem : ltb c d ≡ false → counted d c ≡ suc i % d + 1
    at_end_lem f =
        let h = ltb-false c d f in
        let on = next_line d i p (omega arith) in
        rw f (omega (arith, on.0))

module _ (s : Settings) (more : bit0 s ≡ true) (p : 0 < s.d0) (fits : s.d0 < 2 ^ 32) where
  -- c0 counts by itself: its length is below 2^32, so that it does not wrap
  c0_on : (t : State) (i : ℕ) → t.c0 ≡ i % s.d0 + 1 → (next s t).c0 ≡ suc i % s.d0 + 1
  c0_on t i e = grind (arith, common_steps, counts_on s.d0 i t.c0 p fits e)

  pub c0_at : (i : ℕ) → (after s start i).c0 ≡ i % s.d0 + 1
  c0_at zero = omega (arith, zero-mod s.d0)
  c0_at (suc i) = c0_on (after s start i) i (c0_at i)

  module _ (all : bit1 s ≡ true) (q : 0 < s.d1) (fits_too : s.d1 < 2 ^ 32) where
    -- c1 stays until c0 has reached its length, and then counts
    c1_on : (t : State) (i : ℕ) → t.c0 ≡ i % s.d0 + 1 → t.c1 ≡ i / s.d0 % s.d1 + 1 → (next s t).c1 ≡ suc i / s.d0 % s.d1 + 1
    c1_on t i e f =
        grind (arith, common_steps, same_line s.d0 i, next_line s.d0 i p, counts_on s.d1 (i / s.d0) t.c1 q fits_too f)

    pub c1_at : (i : ℕ) → (after s start i).c1 ≡ i / s.d0 % s.d1 + 1
    c1_at zero = rw (zero-div s.d0) (omega (arith, zero-mod s.d1))
    c1_at (suc i) = c1_on (after s start i) i (c0_at i) (c1_at i)
