-- The padded bytes of packets by index, and with them a sink's words: those from byte 4 - m on of the packets behind a word of zeros.
-- Assumes nothing.
use Prim.Native.Nat.{ℕ, ◌+◌, ◌*◌, ◌-◌, ◌%◌, ◌<◌, ◌≤◌}
use native.Mathlib.Omega.{arith}
use mathlib.Core.List.{List, ◌∷◌, ◌++◌}
use mathlib.Core.Logic.{⊎_elim}
use mathlib.Core.Path.{◌≡◌}
use lib.Dec.{ltb}
use lib.ListN.{length, get_or}
use borrow.Author.Tests.{ltb-true, ltb-false}
use Rattle.std.proofs.lemmas.Grind.{common_steps, elements}
use Rattle.signals.specs.Sequences.{entries_below}
use Rattle.signals.proofs.Bools.{either}
use Rattle.signals.proofs.Entries.{entry_at}
use Rattle.signals.proofs.Writing.{length_entries}
use Rattle.strbgen.specs.Plan.{word_count}
use Rattle.realign.specs.Bytes.{byte_of, byte_at, bytes_of, nulls}
use Rattle.realign.specs.From.{word_from}
use Rattle.realign.specs.Sink.{padded, words_of}

-- a word for each packet, and at most one more
pub count_few : (m n : ℕ) → (n ≤ word_count m n) × (word_count m n ≤ n + 1)
count_few m n = grind (arith, common_steps)

-- the plan's words have as many bytes as the packets and their padding
pub count_exact : (m n : ℕ) → m < 4 → 0 < n → 4 * word_count m n ≡ m + 4 * n + (4 - m) % 4
count_exact m n few some = grind (arith, common_steps)

null_at : (count k : ℕ) → get_or (nulls count) k 0 ≡ 0
null_at count k = grind (arith, common_steps, entry_at {A = ℕ}, length_entries {A = ℕ})

-- an entry of what is joined behind
entry_behind : (xs ys : List ℕ) (n : ℕ) → length xs ≤ n → get_or (xs ++ ys) n 0 ≡ get_or ys (n - length xs) 0
entry_behind xs ys n h = grind (arith, common_steps)

zero_byte : (j : ℕ) → byte_of 0 j ≡ 0
zero_byte j = grind (arith, common_steps)

-- past its words a list has no bytes but zeros
pub byte_past : (words : List ℕ) (k : ℕ) → 4 * length words ≤ k → byte_at words k ≡ 0
byte_past words k h = grind (arith, common_steps)

-- the bytes behind the first word
pub byte_next : (word : ℕ) (words : List ℕ) (k : ℕ) → byte_at (word ∷ words) (4 + k) ≡ byte_at words k
byte_next word words k = grind (arith, common_steps)

module _ (m : ℕ) (packets : List ℕ) where
  -- the packets' bytes and the padding behind them
  rest_byte : (k : ℕ) → byte_at packets k ≡ get_or (bytes_of packets ++ nulls ((4 - m) % 4)) k 0
  rest_byte k = grind (arith, common_steps, null_at, byte_past, entry_at {A = ℕ}, length_entries {A = ℕ})

  pub null_front : (k : ℕ) → k < m → get_or (padded m packets) k 0 ≡ 0
  null_front k h = grind (arith, common_steps, null_at, length_entries {A = ℕ})

  -- behind a word of zeros, from its byte 4 - m on
  pub padded_byte : m < 4 → (k : ℕ) → byte_at (0 ∷ packets) (k + (4 - m)) ≡ get_or (padded m packets) k 0
  padded_byte few k = ⊎_elim (λ t. front (ltb-true k m t)) (λ f. behind (ltb-false k m f)) (either (ltb k m))
    where
      front : k < m → byte_at (0 ∷ packets) (k + (4 - m)) ≡ get_or (padded m packets) k 0
      front h = grind (arith, common_steps, null_front k, zero_byte)

      behind : m ≤ k → byte_at (0 ∷ packets) (k + (4 - m)) ≡ get_or (padded m packets) k 0
      behind h =
          let size : length (nulls m) ≡ m = length_entries {A = ℕ} (λ i. 0) m in
          let index : k + (4 - m) ≡ 4 + (k - m) = omega arith in
          rw (
            index,
            byte_next 0 packets (k - m),
            rest_byte (k - m),
            entry_behind (nulls m) (bytes_of packets ++ nulls ((4 - m) % 4)) k (rw size h),
            size,
          )

  -- a sink's words
  pub sink_words :
      m < 4 → (n : ℕ) → n ≡ word_count m (length packets) →
      entries_below (word_from (4 - m) (0 ∷ packets)) n ≡ words_of m packets
  sink_words few n all = grind (arith, elements, padded_byte)
