-- `joined` meets its contract. What was left over has fewer bits than the word is moved up by, so that the sum is the one that is taken
-- modulo 2^32: both have the same upper bits, and the lower ones are what was left over. Assumes nothing.
use Prim.Native.Nat.{ℕ, ◌+◌, ◌*◌, ◌-◌, ◌%◌, ◌^◌, ◌<◌}
use native.Mathlib.Omega.{arith}
use mathlib.Core.Path.{◌≡◌, ap, ap₂, ◌∙◌}
use lib.Pow.{pow_pos, high, low, mod-pow-add}
use Rattle.std.proofs.lemmas.Grind.{common_steps}
use Rattle.realign.proofs.shift.joined.Goals as goal

module _ (word bits : ℕ) (less : bits < 32) where
  -- modulo 2^32 a word that is moved up behind others keeps the bits for which there is room
  kept : (left : ℕ) → left < 2 ^ bits → (word * 2 ^ bits + left) % 2 ^ 32 ≡ word % 2 ^ (32 - bits) * 2 ^ bits + left
  kept left small =
      ap (λ width. (word * 2 ^ bits + left) % 2 ^ width) room
      ∙ mod-pow-add (word * 2 ^ bits + left) (32 - bits) bits
      ∙ ap₂ (λ upper lower. upper % 2 ^ (32 - bits) * 2 ^ bits + lower) (high word bits small) (low word bits small)
    where
      room : 32 ≡ 32 - bits + bits
      room = omega arith

  no-carry : (left : ℕ) → left < 2 ^ bits → left + word * 2 ^ bits % 2 ^ 32 ≡ (left + word * 2 ^ bits) % 2 ^ 32
  no-carry left small = grind (arith, common_steps, kept left small, kept 0 (pow_pos bits))

pub overflow_add-result : goal.overflow_add-result
overflow_add-result c =
    let a = c.args in
    let same = no-carry a.word a.bits c.requires.few a.left c.requires.small in
    omega (arith, same)

pub returns : goal.returns
returns c = no-carry c.args.word c.args.bits c.requires.few c.args.left c.requires.small
