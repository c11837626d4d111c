-- Strobes side by side are digits to the base 16: lane i's stay below 16 to the power i + 1, and are found there again.
-- By induction over the number of lanes, the last apart. Assumes nothing.
use Prim.Native.Nat.{ℕ, zero, suc, ◌+◌, ◌-◌, ◌*◌, ◌/◌, ◌%◌, ◌^◌, ◌<◌, ◌≤◌}
use native.Mathlib.Nat.{zero-lt-suc, one-le-pow, pow-suc, lt_of_lt_of_le, pow-le-pow_right, mul_assoc, mul_comm, mod-eq_of_lt, mul-add-div_right, mul-add-mod_self_right, mod-one}
use native.Mathlib.Omega.{arith}
use mathlib.Core.Bool.{true}
use mathlib.Core.List.{List}
use mathlib.Core.Logic.{⊎_elim}
use mathlib.Core.Path.{◌≡◌, refl, sym, ◌∙◌, ap, ap₂}
use lib.Arith.{digits_lt, digits_div, mod-mul}
use lib.Dec.{ltb}
use lib.Pow.{pow-add}
use borrow.Author.Tests.{ltb-true, ltb-false, leb-true}
use Rattle.signals.specs.declared.Payload.{Payload}
use Rattle.signals.specs.Payloads.{max_strb, legal_strb}
use Rattle.signals.proofs.Below.{each_below}
use Rattle.signals.proofs.Bools.{either}
use Rattle.lanes.specs.declared.Offer.{Offer}
use Rattle.lanes.specs.declared.Wide.{Wide}
use Rattle.lanes.specs.Lanes.{max_lanes}
use Rattle.lanes.specs.Merge.{payload_at, legal_strobes}
use Rattle.lanes.specs.Wide.{lane, strobes_below}

pub pow_pos : (i : ℕ) → 0 < 16 ^ i
pow_pos i = one-le-pow i 16 (zero-lt-suc 15)

-- four lanes' strobes fit in 16 bits
pub pow_few : (i : ℕ) → i ≤ max_lanes → 16 ^ i ≤ 65536
pow_few i few = pow-le-pow_right {n = 16} (zero-lt-suc 15) few

-- strobes above lane i do not show in it
above : (s d i below : ℕ) → (s * 16 ^ (suc d + i) + below) / 16 ^ i % 16 ≡ below / 16 ^ i % 16
above s d i below = rw shifted (mul-add-mod_self_right (s * 16 ^ d) 16 (below / 16 ^ i))
  where
    power : s * 16 ^ (suc d + i) ≡ s * 16 ^ d * 16 * 16 ^ i
    power =
        ap (λ (p : ℕ). s * p) (pow-add 16 (suc d) i ∙ ap (λ (p : ℕ). p * 16 ^ i) (pow-suc 16 d))
        ∙ sym (mul_assoc s (16 ^ d * 16) (16 ^ i))
        ∙ ap (λ (p : ℕ). p * 16 ^ i) (sym (mul_assoc s (16 ^ d) 16))

    shifted : (s * 16 ^ (suc d + i) + below) / 16 ^ i ≡ s * 16 ^ d * 16 + below / 16 ^ i
    shifted = ap (λ (p : ℕ). (p + below) / 16 ^ i) power ∙ mul-add-div_right (pow_pos i) (s * 16 ^ d * 16) below

module _ (payload : ℕ → Payload) where
  pub strobes_fit : (n : ℕ) → ((i : ℕ) → i < n → (payload i).strb < 16) → strobes_below payload n < 16 ^ n
  strobes_fit zero legal = pow_pos 0
  strobes_fit (suc n) legal =
      rw (pow-suc 16 n, mul_comm (16 ^ n) 16)
      (digits_lt (legal n (omega arith)) (strobes_fit n (λ i h. legal i (omega arith))))

  pub strobes_found : (n i : ℕ) → ((j : ℕ) → j < n → (payload j).strb < 16) → i < n →
      strobes_below payload n / 16 ^ i % 16 ≡ (payload i).strb
  strobes_found zero i legal h = absurd (omega arith)
  strobes_found (suc n) i legal h =
      ⊎_elim
      (λ t. let less = ltb-true i n t in
      let d = n - (i + 1) in
      let e : n ≡ suc d + i = omega arith in
      ap (λ (k : ℕ). ((payload n).strb * 16 ^ k + strobes_below payload n) / 16 ^ i % 16) e
      ∙ above (payload n).strb d i (strobes_below payload n)
      ∙ strobes_found n i (λ j g. legal j (omega arith)) less)
      (λ f. let last : i ≡ n = omega (arith, ltb-false i n f) in
      rw last
      (ap (λ (k : ℕ). k % 16) (digits_div (payload n).strb (strobes_fit n (λ j g. legal j (omega arith))))
      ∙ mod-eq_of_lt (legal n (omega arith))))
      (either (ltb i n))

-- the strobes of inputs that are legal stay below 16, and those of the lanes side by side below 16 to the power 4
pub legal_below : (inputs : List Offer) (n : ℕ) → legal_strobes n inputs ≡ true → (i : ℕ) → i < n → (payload_at inputs i).strb < 16
legal_below inputs n e i h =
    let legal = leb-true (payload_at inputs i).strb max_strb (each_below (λ j. legal_strb (payload_at inputs j)) n e i h) in omega arith

pub strobes_small : (inputs : List Offer) (n i : ℕ) → n ≤ max_lanes → legal_strobes n inputs ≡ true → i ≤ n →
    strobes_below (payload_at inputs) i < 65536
strobes_small inputs n i few e h =
    lt_of_lt_of_le (strobes_fit (payload_at inputs) i (λ j g. legal_below inputs n e j (omega arith))) (pow_few i (omega arith))

-- strobes that agree on the lanes
pub strobes_alike : (f g : ℕ → Payload) (n : ℕ) → ((i : ℕ) → i < n → f i ≡ g i) → strobes_below f n ≡ strobes_below g n
strobes_alike f g zero same = refl
strobes_alike f g (suc n) same =
    ap₂ (λ (p : Payload) (below : ℕ). p.strb * 16 ^ n + below) (same n (omega arith)) (strobes_alike f g n (λ i h. same i (omega arith)))

-- the strobes of a wide payload's lanes are its own, up to so many
pub strobes_of_lanes : (w : Wide) (n : ℕ) → strobes_below (lane w) n ≡ w.strb % 16 ^ n
strobes_of_lanes w zero = sym (mod-one w.strb)
strobes_of_lanes w (suc n) =
    ap (λ (below : ℕ). w.strb / 16 ^ n % 16 * 16 ^ n + below) (strobes_of_lanes w n)
    ∙ sym (ap (λ (m : ℕ). w.strb % m) (pow-suc 16 n ∙ mul_comm (16 ^ n) 16) ∙ mod-mul w.strb (zero-lt-suc 15) (pow_pos n))
