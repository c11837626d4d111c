-- Digits without leading zeros, and how many a number has. Assumes nothing.
use Rattle.std.proofs.Common.{◌≡◌, ◌∙◌, Bool, true, false, cond, List, [], ◌∷◌, ℕ, suc, ◌+◌, ◌-◌, ◌/◌, ◌%◌, ◌<◌, ◌≤◌, min, length, take, drop, leb, arith, length-drop}
use Rattle.std.proofs.Math.Seq.{take_all}
use Rattle.std.specs.List.{prefix_len}
use Rattle.trace_text.specs.Digits.{digit_byte, without_zeros, fixed, decimal}

-- as many zeros go as there are, but the last digit stays
pub zeros_go : (digits : List ℕ) → 0 < length digits → drop (min (prefix_len (λ d. leb d 48) digits) (length digits - 1)) digits ≡ without_zeros digits
zeros_go [] h = absurd (omega arith)
zeros_go (d ∷ []) h = let e : min (prefix_len (λ d. leb d 48) (d ∷ [])) 0 ≡ 0 = omega arith in rw e
zeros_go (d ∷ e ∷ ds) h = of (leb d 48) (zeros_go (e ∷ ds) (omega arith))
  where
    of : (b : Bool) → drop (min (prefix_len (λ d. leb d 48) (e ∷ ds)) (length (e ∷ ds) - 1)) (e ∷ ds) ≡ without_zeros (e ∷ ds)
        → drop (min (cond b (1 + prefix_len (λ d. leb d 48) (e ∷ ds)) 0) (length (d ∷ e ∷ ds) - 1)) (d ∷ e ∷ ds) ≡ cond b (without_zeros (e ∷ ds)) (d ∷ e ∷ ds)
    of true more =
        let e : min (1 + prefix_len (λ d. leb d 48) (e ∷ ds)) (length (d ∷ e ∷ ds) - 1) ≡ suc (min (prefix_len (λ d. leb d 48) (e ∷ ds)) (length (e ∷ ds) - 1)) = omega arith in
        rw e more
    of false more = let e : min 0 (length (d ∷ e ∷ ds) - 1) ≡ 0 = omega arith in rw e

-- the same, cut off at an index
pub zeros_cut : (digits : List ℕ) (first : ℕ) → 0 < length digits → first ≡ min (prefix_len (λ d. leb d 48) digits) (length digits - 1) →
    take (length digits - first) (drop first digits) ≡ without_zeros digits
zeros_cut digits first h e =
    take_all (length digits - first) (drop first digits) (omega (arith, length-drop first digits)) ∙ rw e (zeros_go digits h)

-- digits without zeros are no more
pub without_le : (digits : List ℕ) → length (without_zeros digits) ≤ length digits
without_le [] = omega arith
without_le (d ∷ []) = omega arith
without_le (d ∷ e ∷ ds) = grind (arith, without_le (e ∷ ds))

-- a number has at most five digits
pub decimal_short : (n : ℕ) → length (decimal n) ≤ 5
unfolding decimal
decimal_short n = without_le (fixed 10 5 n)

-- a number below 10,000 has at most four digits
pub decimal_four : (n : ℕ) → n < 10000 → length (decimal n) ≤ 4
unfolding decimal
decimal_four n h =
    let e : n / 10 / 10 / 10 / 10 % 10 ≡ 0 = omega arith in
    rw e (without_le (digit_byte (n / 10 / 10 / 10 % 10) ∷ digit_byte (n / 10 / 10 % 10) ∷ digit_byte (n / 10 % 10) ∷ digit_byte (n % 10) ∷ []))

pub decimal_zero : length (decimal 0) ≤ 1
unfolding decimal
decimal_zero = omega arith
