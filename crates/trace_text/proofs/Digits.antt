-- A digit is below its base, and a number of so many digits below the base's power: room for so many digits more leaves,
-- after one of them, room for the others. Assumes nothing.
use mathlib.Core.Path.{◌≡◌}
use mathlib.Core.Logic.{◌⊎◌, ⊎_elim}
use mathlib.Core.Option.{some}
use Prim.Native.Nat.{ℕ, suc, ◌+◌, ◌-◌, ◌*◌, ◌^◌, ◌<◌, ◌≤◌}
use native.Mathlib.Nat.{pow-succ', mul_assoc, mul-le-mul_right, le-mul_of_pos_right, one-le-pow, le_trans, add-mul}
use native.Mathlib.Omega.{arith}
use Rattle.std.proofs.lemmas.Bool.Decides.{nat_tests}
use Rattle.trace_text.specs.Digits.{digit_of}

-- a digit is below ten, or a letter of base sixteen
pub digit_small : (base b d : ℕ) → digit_of base b ≡ some d → (d < 10) ⊎ ((16 ≤ base) × (d < 16))
digit_small base b d e = grind (arith, nat_tests)

-- in base 10 or 16 a digit is below the base
pub digit_below : (base b d : ℕ) → 10 ≤ base → digit_of base b ≡ some d → d < base
digit_below base b d h e = ⊎_elim (λ k. omega arith) (λ k. omega arith) (digit_small base b d e)

-- so a hex digit is below sixteen
pub hex_digit_lem : (b d : ℕ) → digit_of 16 b ≡ some d → d < 16
hex_digit_lem b d e = digit_below 16 b d (omega arith) e

-- one digit takes one place
pub room_step : (base n left d : ℕ) → d < base → (n * base + d + 1) * base ^ left ≤ (n + 1) * base ^ suc left
room_step base n left d h =
    let step : n * base + d + 1 ≤ (n + 1) * base = rw (add-mul n 1 base) (omega arith) in
    rw (pow-succ' base left, ← mul_assoc (n + 1) base (base ^ left)) (mul-le-mul_right (base ^ left) step)

-- a turn that reads a digit: the base, the byte, the digit, the value and the index before it
module _ (base byte d value i n : ℕ) (large : 10 ≤ base) (inside : i < n) (digit : digit_of base byte ≡ some d)
    (so_far : (value + 1) * base ^ (n - i) ≤ base ^ n) where
  -- there is room for the digits after it
  pub room : (value * base + d + 1) * base ^ (n - (i + 1)) ≤ base ^ n
  room =
      let e : suc (n - (i + 1)) ≡ n - i = omega arith in
      le_trans (room_step base value (n - (i + 1)) d (digit_below base byte d large digit)) (rw e so_far)

  -- so the value fits
  pub grown : base ^ n ≤ 2 ^ 32 → value * base + d < 2 ^ 32
  grown fits =
      let h = le_trans (le-mul_of_pos_right (value * base + d + 1) (one-le-pow (n - (i + 1)) base (omega arith))) room in omega arith
