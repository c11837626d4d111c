-- Which strobes go with a counter. Bits 0 and 1 are both 1 exactly where the remainder by 4 is 3, by the numbers; which strobes up
-- to 15 have both is computed. Assumes nothing.
use Prim.Native.Nat.{ℕ, ◌+◌, ◌*◌, ◌/◌, ◌%◌, ◌<◌}
use native.Mathlib.Omega.{arith}
use mathlib.Core.Bool.{true, ◌&&◌, beq}
use mathlib.Core.Path.{◌≡◌, refl}
use lib.Dec.{eqb}
use lib.Pow.{mod-pow-add}
use borrow.Author.Tests.{leb-true, eqb-true, eq-eqb}
use Rattle.signals.specs.Payloads.{max_strb, strobed}
use Rattle.signals.specs.Refusals.{any_of}
use Rattle.signals.proofs.Below.{each_below}
use Rattle.signals.proofs.Bools.{both, beq_true, passes_alike}
use Rattle.stream_checker.specs.Meaning.{carrying_strobes, CounterByStrobe}

-- bits 0 and 1 are both 1 exactly where the remainder by 4 is 3
pub low_strobes : (strb : ℕ) → eqb (strb % 4) 3 ≡ (strobed strb 0 && strobed strb 1)
low_strobes strb = passes_alike (eqb (strb % 4) 3) (strobed strb 0 && strobed strb 1) ones three
  where
    digits : strb % 4 ≡ strb / 2 % 2 * 2 + strb % 2
    digits = mod-pow-add strb 1 1

    ones : eqb (strb % 4) 3 ≡ true → strobed strb 0 && strobed strb 1 ≡ true
    ones t =
        let e = eqb-true (strb % 4) 3 t in
        rw (eq-eqb (strb / 1 % 2) 1 (omega (arith, digits, e)), eq-eqb (strb / 2 % 2) 1 (omega (arith, digits, e)))

    three : strobed strb 0 && strobed strb 1 ≡ true → eqb (strb % 4) 3 ≡ true
    three s =
        let b = both (strobed strb 0) (strobed strb 1) s in
        eq-eqb (strb % 4) 3 (omega (arith, digits, eqb-true (strb / 1 % 2) 1 b.0, eqb-true (strb / 2 % 2) 1 b.1))

carrying_listed : (strb : ℕ) → strb < max_strb + 1 → strobed strb 0 && strobed strb 1 ≡ any_of (eqb strb) carrying_strobes
carrying_listed strb h =
    beq_true (strobed strb 0 && strobed strb 1) (any_of (eqb strb) carrying_strobes)
    (each_below (λ k. beq (strobed k 0 && strobed k 1) (any_of (eqb k) carrying_strobes)) (max_strb + 1) refl strb h)

pub counter_by_strobe_lem : CounterByStrobe
counter_by_strobe_lem s legal =
    let strb = s.payload.strb in rw (carrying_listed strb (omega (arith, leb-true strb max_strb legal)))
