-- Laws of a word's bytes. A word is made of its bytes and read back by them; of a word moved up by some bytes behind others, the lower
-- bytes are the others' and the upper ones its own: quotients by powers of two, over the number of bytes. Assumes nothing.
use Prim.Native.Nat.{ℕ, zero, suc, ◌+◌, ◌*◌, ◌-◌, ◌/◌, ◌%◌, ◌^◌, ◌<◌}
use native.Mathlib.Omega.{arith}
use native.Mathlib.Nat.{mul_assoc, add-mul-div_right, add-mul-mod_self_right, mod-lt, div-eq_of_lt}
use mathlib.Core.Path.{◌≡◌, sym, ap, ◌∙◌}
use lib.Pow.{pow_pos, pow-add, shr-shr, mod-pow-add}
use Rattle.std.proofs.lemmas.Grind.{common_steps}
use Rattle.realign.specs.Bytes.{byte_of, word_of}

-- words of the same bytes
pub same_bytes : (f g : ℕ → ℕ) → ((j : ℕ) → j < 4 → f j ≡ g j) → word_of f ≡ word_of g
same_bytes f g same = grind (arith, common_steps, same 0, same 1, same 2, same 3)

pub word_of_bytes : (word : ℕ) → word_of (byte_of word) ≡ word % 2 ^ 32
word_of_bytes word = grind (arith, common_steps, mod-pow-add word 8 8, mod-pow-add word 8 16, mod-pow-add word 8 24)

pub byte_of_word : (f : ℕ → ℕ) → ((j : ℕ) → f j < 2 ^ 8) → (j : ℕ) → j < 4 → byte_of (word_of f) j ≡ f j
byte_of_word f small zero h = omega (arith, small 0, small 1, small 2, small 3)
byte_of_word f small (suc zero) h = omega (arith, small 0, small 1, small 2, small 3)
byte_of_word f small (suc (suc zero)) h = omega (arith, small 0, small 1, small 2, small 3)
byte_of_word f small (suc (suc (suc zero))) h = omega (arith, small 0, small 1, small 2, small 3)
byte_of_word f small (suc (suc (suc (suc j)))) h = absurd (omega arith)

pub byte_small : (word j : ℕ) → byte_of word j < 2 ^ 8
byte_small word j = mod-lt (word / 2 ^ (8 * j)) (pow_pos 8)

-- the bytes of a word from byte k on
pub byte_above : (word k j : ℕ) → byte_of (word / 2 ^ (8 * k)) j ≡ byte_of word (k + j)
byte_above word k j = grind (arith, common_steps, shr-shr word (8 * k) (8 * j))

-- a word moved up by some bytes, behind others
module _ (left word bytes : ℕ) where
  abbrev moved : ℕ
  moved = left + word * 2 ^ (8 * bytes)

  pub byte_behind : left < 2 ^ (8 * bytes) → (j : ℕ) → byte_of moved (bytes + j) ≡ byte_of word j
  byte_behind small j =
      grind (arith, common_steps, byte_above moved bytes j, add-mul-div_right left word (pow_pos (8 * bytes)), div-eq_of_lt small)

  pub byte_before : (j : ℕ) → j < bytes → byte_of moved j ≡ byte_of left j
  byte_before j h =
      ap (λ w. (left + w) / 2 ^ (8 * j) % 2 ^ 8) above
      ∙ ap (λ q. q % 2 ^ 8) (add-mul-div_right left (word * 2 ^ (8 * rest) * 2 ^ 8) (pow_pos (8 * j)))
      ∙ add-mul-mod_self_right (left / 2 ^ (8 * j)) (word * 2 ^ (8 * rest)) (2 ^ 8)
    where
      -- the bytes between
      rest : ℕ
      rest = bytes - (j + 1)

      exponent : 8 * bytes ≡ 8 * rest + 8 + 8 * j
      exponent = omega arith

      above : word * 2 ^ (8 * bytes) ≡ word * 2 ^ (8 * rest) * 2 ^ 8 * 2 ^ (8 * j)
      above =
          ap (λ e. word * 2 ^ e) exponent
          ∙ ap (λ p. word * p) (pow-add 2 (8 * rest + 8) (8 * j) ∙ ap (λ p. p * 2 ^ (8 * j)) (pow-add 2 (8 * rest) 8))
          ∙ sym (mul_assoc word (2 ^ (8 * rest) * 2 ^ 8) (2 ^ (8 * j)))
          ∙ ap (λ p. p * 2 ^ (8 * j)) (sym (mul_assoc word (2 ^ (8 * rest)) (2 ^ 8)))
