-- Texts as bytes, and numbers as digits, the highest first. Assumes nothing.
use Rattle.std.specs.Prelude.{ℕ, zero, suc, ◌+◌, ◌-◌, ◌*◌, ◌/◌, ◌%◌, cond, ◌&&◌, List, [], ◌∷◌, ◌++◌, leb, ltb}
use Prim.Native.Char.{code}
use Prim.Native.String as string
use Prim.Native.String.{String}
use Rattle.std.proofs.Math.Option.{Option, none, some}

-- the bytes of a text
abbrev pub bytes : String → List ℕ
bytes string.[] = []
bytes (string.◌∷◌ c s) = code c ∷ bytes s

-- the byte of a digit: 0 to 9, then a to f
abbrev pub digit_byte : ℕ → ℕ
digit_byte d = cond (ltb d 10) (48 + d) (87 + d)

-- the digit of a byte in a base of 10 or 16; upper-case letters are none
abbrev pub digit_of : (base byte : ℕ) → Option ℕ
digit_of base byte =
    cond (leb 48 byte && leb byte 57) (some (byte - 48))
    (cond (leb 16 base && (leb 97 byte && leb byte 102)) (some (byte - 87))
    none)

-- the lowest k digits of n
abbrev pub fixed : (base k n : ℕ) → List ℕ
fixed base zero n = []
fixed base (suc k) n = fixed base k (n / base) ++ digit_byte (n % base) ∷ []

-- the number that digits stand for, after those that stand for n
abbrev pub number_from : (base n : ℕ) → (digits : List ℕ) → ℕ
number_from base n [] = n
number_from base n (d ∷ ds) = number_from base (n * base + d) ds

-- no leading zero but 0 itself
abbrev pub without_zeros : List ℕ → List ℕ
without_zeros [] = []
without_zeros (d ∷ []) = d ∷ []
without_zeros (d ∷ e ∷ ds) = cond (leb d 48) (without_zeros (e ∷ ds)) (d ∷ e ∷ ds)

-- a number of up to five digits, as document 01 writes it
unfoldable pub decimal : ℕ → List ℕ
decimal n = without_zeros (fixed 10 5 n)
