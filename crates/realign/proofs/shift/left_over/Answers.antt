-- `left_over` meets its contract: the two quotients are one by a power of two, of a word of 32 bits. Assumes nothing.
use Prim.Native.Nat.{ℕ, ◌+◌, ◌-◌, ◌/◌, ◌^◌, ◌<◌}
use native.Mathlib.Omega.{arith}
use mathlib.Core.Path.{◌≡◌, ap, ◌∙◌}
use lib.Pow.{shr_lt, shr-shr}
use Rattle.realign.proofs.shift.left_over.Goals as goal

module _ (word bits : ℕ) (less : bits < 32) where
  one_shift : word / 2 / 2 ^ (31 - bits) ≡ word / 2 ^ (32 - bits)
  one_shift = shr-shr word 1 (31 - bits) ∙ ap (λ by. word / 2 ^ by) sum
    where
      sum : 1 + (31 - bits) ≡ 32 - bits
      sum = omega arith

  -- the uppermost bits of 32 are as many as those that are moved out
  below-bits : word < 2 ^ 32 → word / 2 / 2 ^ (31 - bits) < 2 ^ bits
  below-bits fits = rw one_shift (shr_lt bits (32 - bits) (rw split fits))
    where
      split : bits + (32 - bits) ≡ 32
      split = omega arith

pub returns : goal.returns
returns c =
    record {
      uppermost = one_shift c.args.word c.args.bits c.requires;
      small = below-bits c.args.word c.args.bits c.requires (omega arith);
    }
