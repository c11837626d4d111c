-- Words from some byte on, as the helpers of both calls write them; no public promise cites this. Assumes nothing.
use Rattle.std.specs.Prelude.{ℕ, ◌+◌, ◌*◌, List}
use Rattle.realign.specs.Bytes.{word_of, byte_at}

-- the word of the four bytes from byte 4 * i + m on
abbrev pub word_from : (m : ℕ) → (words : List ℕ) → (i : ℕ) → ℕ
word_from m words i = word_of (λ j. byte_at words (4 * i + j + m))
