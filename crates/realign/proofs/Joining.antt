-- A word moved up by some bytes behind what the word before leaves over: its lower bytes are the upper ones of the word before and its
-- upper bytes the lower ones of the word, so that it is the word from some byte on. By index, over the number of bytes. Assumes nothing.
use Prim.Native.Nat.{ℕ, suc, ◌+◌, ◌*◌, ◌-◌, ◌/◌, ◌%◌, ◌^◌, ◌<◌, ◌≤◌}
use native.Mathlib.Omega.{arith}
use mathlib.Core.List.{List}
use mathlib.Core.Logic.{⊎_elim}
use mathlib.Core.Path.{◌≡◌, sym, ap, ◌∙◌}
use lib.Dec.{ltb}
use lib.ListN.{length, get_or}
use lib.Pow.{pow-lt}
use borrow.Author.Tests.{ltb-true, ltb-false}
use Rattle.std.proofs.lemmas.Grind.{common_steps}
use Rattle.signals.proofs.Bools.{either}
use Rattle.realign.specs.Bytes.{byte_of, byte_at}
use Rattle.realign.specs.From.{word_from}
use Rattle.realign.proofs.Bytes.{same_bytes, word_of_bytes, byte_above, byte_behind, byte_before}

-- byte j of word i
pub byte_at_lem : (words : List ℕ) (i j : ℕ) → j < 4 → byte_at words (4 * i + j) ≡ byte_of (get_or words i 0) j
byte_at_lem words i j h = grind (arith, common_steps)

module _ (bytes : ℕ) (words : List ℕ) (few : bytes < 4) (i left : ℕ) (over : left ≡ get_or words i 0 / 2 ^ (32 - 8 * bytes))
    (small : left < 2 ^ (8 * bytes)) where
  -- word i + 1 behind what word i leaves over
  abbrev moved : ℕ
  moved = left + get_or words (suc i) 0 * 2 ^ (8 * bytes)

  lower : (j : ℕ) → j < bytes → byte_of moved j ≡ byte_at words (4 * i + j + (4 - bytes))
  lower j h =
      byte_before left (get_or words (suc i) 0) bytes j h
      ∙ ap (λ l. byte_of l j) (over ∙ ap (λ bits. get_or words i 0 / 2 ^ bits) bits)
      ∙ byte_above (get_or words i 0) (4 - bytes) j
      ∙ sym (byte_at_lem words i (4 - bytes + j) (omega arith))
      ∙ ap (byte_at words) index
    where
      bits : 32 - 8 * bytes ≡ 8 * (4 - bytes)
      bits = omega arith

      index : 4 * i + (4 - bytes + j) ≡ 4 * i + j + (4 - bytes)
      index = omega arith

  upper : (j : ℕ) → bytes ≤ j → j < 4 → byte_of moved j ≡ byte_at words (4 * i + j + (4 - bytes))
  upper j h g =
      ap (byte_of moved) own
      ∙ byte_behind left (get_or words (suc i) 0) bytes small (j - bytes)
      ∙ sym (byte_at_lem words (suc i) (j - bytes) (omega arith))
      ∙ ap (byte_at words) index
    where
      own : j ≡ bytes + (j - bytes)
      own = omega arith

      index : 4 * suc i + (j - bytes) ≡ 4 * i + j + (4 - bytes)
      index = omega arith

  pub word_joins : (left + get_or words (suc i) 0 * 2 ^ (8 * bytes)) % 2 ^ 32 ≡ word_from (4 - bytes) words i
  word_joins =
      sym (word_of_bytes moved)
      ∙ same_bytes (byte_of moved) (λ j. byte_at words (4 * i + j + (4 - bytes)))
      (λ j h. ⊎_elim (λ t. lower j (ltb-true j bytes t)) (λ f. upper j (ltb-false j bytes f) h) (either (ltb j bytes)))

  -- past the last word
  pub word_left : length words ≤ suc i → left ≡ word_from (4 - bytes) words i
  word_left past = grind (arith, common_steps, word_joins, pow-lt {i = 8 * bytes} {j = 32})
