-- Words as bytes in address order: byte 0 of a word is its lowest eight bits and has the lowest address. Assumes nothing.
use Rattle.std.specs.Prelude.{ℕ, ◌+◌, ◌*◌, ◌/◌, ◌%◌, ◌^◌, List, length, get_or}
use Rattle.signals.specs.Sequences.{entries_below}

-- byte j of a word
abbrev pub byte_of : (word j : ℕ) → ℕ
byte_of word j = word / 2 ^ (8 * j) % 2 ^ 8

-- the word of four bytes
abbrev pub word_of : (byte : ℕ → ℕ) → ℕ
word_of byte = byte 0 + byte 1 * 2 ^ 8 + byte 2 * 2 ^ 16 + byte 3 * 2 ^ 24

-- byte k of a list of words, counted from the first word's start
abbrev pub byte_at : (words : List ℕ) → (k : ℕ) → ℕ
byte_at words k = byte_of (get_or words (k / 4) 0) (k % 4)

-- all bytes of a list of words
abbrev pub bytes_of : (words : List ℕ) → List ℕ
bytes_of words = entries_below (byte_at words) (4 * length words)

-- null bytes, which are zero
abbrev pub nulls : (count : ℕ) → List ℕ
nulls count = entries_below (λ k. 0) count

-- bytes cut into so many words, four to a word
abbrev pub cut : (bytes : List ℕ) → (count : ℕ) → List ℕ
cut bytes count = entries_below (λ i. word_of (λ j. get_or bytes (4 * i + j) 0)) count
