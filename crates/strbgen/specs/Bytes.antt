-- The bytes that strobes name. Assumes nothing.
use Rattle.std.specs.Prelude.{ℕ, ◌+◌, ◌*◌, ◌<◌, ◌&&◌, List, [], ◌∷◌, ◌≡◌, ltb, leb}
use Rattle.signals.specs.Judging.{count_below}
use Rattle.signals.specs.Payloads.{strobed}
use Rattle.strbgen.specs.Plan.{word_count, strobe_at, strobes}

-- how many of a word's four bytes a strobe names
unfoldable pub bytes_in : ℕ → ℕ
bytes_in strobe = count_below (strobed strobe) 4

-- how many bytes the strobes of a plan name
abbrev pub bytes_named : List ℕ → ℕ
bytes_named [] = 0
bytes_named (strobe ∷ more) = bytes_in strobe + bytes_named more

-- byte j of word i is the byte 4 * i + j, counted from the first word's start; there the address is byte m. The strobes of a plan
-- name 4 * n bytes, and they name those from the address on
pub record ExactBytes (m n : ℕ) : Type 0 where
  pub count : bytes_named (strobes m (word_count m n)) ≡ 4 * n
  pub place :
      (i j : ℕ) → i < word_count m n → j < 4 →
      strobed (strobe_at m (word_count m n) i) j ≡ (leb m (4 * i + j) && ltb (4 * i + j) (m + 4 * n))
