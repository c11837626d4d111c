-- What is promised of reading and writing, which is all that can be: the counts. Assumes nothing.
use Rattle.std.specs.Prelude.{◌≡◌, ℕ, ◌<◌, ◌≤◌, List, length, take, Option, Some, None, Result, Ok, Err}
use Rattle.stdio.specs.declared.Unwritten.{Unwritten}

-- `&xs[..n]` is in bounds, and has n bytes
abbrev pub IsPrefixLen : ℕ → List ℕ → Type 0
IsPrefixLen n xs = (n ≤ length xs) × (n ≡ length (take n xs))

-- the bytes read stand at the start of the buffer; with no room for a byte nothing is read, and nothing fails
abbrev pub Fills : (read : Option ℕ) → (buffer : List ℕ) → Type 0
Fills (Some n) buffer = IsPrefixLen n buffer
Fills None buffer = 0 < length buffer

-- where writing so many bytes failed, a byte was left; so nothing to write is written whole
abbrev pub Writes : Result Unit Unwritten → (bytes : ℕ) → Type 0
Writes (Ok whole) bytes = Unit {0}
Writes (Err part) bytes = part.written < bytes
