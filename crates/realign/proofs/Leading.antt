-- A source's words behind the leading one, after the first word once more: an unaligned row is the same again, and an aligned one, which
-- has no leading word, has its first word twice, of which the bytes from 4 on are looked at. Assumes nothing.
use Prim.Native.Nat.{ℕ, ◌+◌, ◌*◌, ◌-◌, ◌/◌, ◌%◌, ◌<◌, ◌≤◌}
use native.Mathlib.Omega.{arith}
use mathlib.Core.List.{List, ◌∷◌, ◌++◌}
use mathlib.Core.Logic.{⊎_elim}
use mathlib.Core.Path.{◌≡◌, sym, ap, ap₂, ◌∙◌}
use lib.Dec.{ltb}
use lib.ListN.{length, get_or, take, drop, length-drop}
use lib.Seq.{get_or-drop, take_all}
use borrow.Author.Tests.{ltb-true, ltb-false}
use Rattle.signals.specs.Sequences.{entries_below}
use Rattle.signals.proofs.Bools.{either}
use Rattle.signals.proofs.Entries.{same_entries}
use Rattle.realign.specs.Bytes.{byte_of, byte_at}
use Rattle.realign.specs.From.{word_from}
use Rattle.realign.proofs.Bytes.{same_bytes}
use Rattle.realign.proofs.Joining.{byte_at_lem}
use Rattle.realign.proofs.Padded.{byte_next}

-- the bytes behind some words
byte_drop : (words : List ℕ) (lead k : ℕ) → byte_at (drop lead words) k ≡ byte_at words (4 * lead + k)
byte_drop words lead k =
    ap (λ w. byte_of w (k % 4)) (get_or-drop lead words (k / 4) 0)
    ∙ ap₂ (λ q r. byte_of (get_or words q 0) r) quotient remainder
  where
    quotient : lead + k / 4 ≡ (4 * lead + k) / 4
    quotient = omega arith

    remainder : k % 4 ≡ (4 * lead + k) % 4
    remainder = omega arith

-- the tail of a slice, as it is lent
abbrev pub tail_of : (lead : ℕ) → List ℕ → List ℕ
tail_of lead words = take (length words - lead) (drop lead words)

pub tail_whole : (lead : ℕ) (words : List ℕ) → tail_of lead words ≡ drop lead words
tail_whole lead words = take_all (length words - lead) (drop lead words) (rw (length-drop lead words) (omega arith))

module _ (m bytes lead : ℕ) (words : List ℕ) (few : bytes < 4) (less : m < 4) (sum : 4 * lead ≡ bytes + m) where
  abbrev again : List ℕ
  again = get_or words 0 0 ∷ drop lead words

  from_byte : (k : ℕ) → byte_at again (k + (4 - bytes)) ≡ byte_at words (k + m)
  from_byte k = ⊎_elim (λ t. first (ltb-true k bytes t)) (λ f. rest (ltb-false k bytes f)) (either (ltb k bytes))
    where
      first : k < bytes → byte_at again (k + (4 - bytes)) ≡ byte_at words (k + m)
      first h =
          ap (byte_at again) (from_start (k + (4 - bytes)))
          ∙ byte_at_lem again 0 (k + (4 - bytes)) (omega arith)
          ∙ sym (byte_at_lem words 0 (k + (4 - bytes)) (omega arith))
          ∙ ap (byte_at words) index
        where
          from_start : (j : ℕ) → j ≡ 4 * 0 + j
          from_start j = omega arith

          index : 4 * 0 + (k + (4 - bytes)) ≡ k + m
          index = omega arith

      rest : bytes ≤ k → byte_at again (k + (4 - bytes)) ≡ byte_at words (k + m)
      rest h =
          ap (byte_at again) behind
          ∙ byte_next (get_or words 0 0) (drop lead words) (k - bytes)
          ∙ byte_drop words lead (k - bytes)
          ∙ ap (byte_at words) index
        where
          behind : k + (4 - bytes) ≡ 4 + (k - bytes)
          behind = omega arith

          index : 4 * lead + (k - bytes) ≡ k + m
          index = omega arith

  -- n words from byte m on, and behind them what a buffer held
  pub tail_writes :
      (n : ℕ) (out : List ℕ) → length words - lead ≡ n →
      entries_below (word_from (4 - bytes) (get_or words 0 0 ∷ tail_of lead words)) (length (tail_of lead words)) ++ drop (length (tail_of lead words)) out ≡
      entries_below (word_from m words) n ++ drop n out
  tail_writes n out size =
      ap (λ t. entries_below (word_from (4 - bytes) (get_or words 0 0 ∷ t)) (length t) ++ drop (length t) out) (tail_whole lead words)
      ∙ ap (λ k. entries_below (word_from (4 - bytes) again) k ++ drop k out) (length-drop lead words ∙ size)
      ∙ ap (λ made. made ++ drop n out)
      (same_entries (word_from (4 - bytes) again) (word_from m words) n
      (λ i h. same_bytes (λ j. byte_at again (4 * i + j + (4 - bytes))) (λ j. byte_at words (4 * i + j + m)) (λ j g. from_byte (4 * i + j))))
