-- What the parser's answers mean for the form: what is read at the front of a text, and the rest of it. The contracts of private
-- functions cite this; the promise of `parse` does not. Assumes nothing.
use Rattle.std.specs.Prelude.{ℕ, ◌+◌, ◌*◌, List, [], ◌∷◌, map, Some, None, Option as Answer}
use Rattle.std.proofs.Math.Option.{Option, none, some}
use denote.Ref.{Bor}
use Rattle.trace_text.specs.Digits.{digit_of}
use Rattle.trace_text.specs.declared.Entry.{Entry}
use Rattle.trace_text.specs.Form.{Front}

-- an answer as an option of the form's
abbrev pub found : {A : Type 0} → Answer A → Option A
found None = none
found (Some a) = some a

-- the rest after given bytes
abbrev pub rest_after : Answer (Bor (List ℕ)) → Option (Front (Unit {0}))
rest_after None = none
rest_after (Some rest) = some (record { item = tt; rest = rest.now })

-- an item and the rest
abbrev pub front : {A : Type 0} → Answer (A × Bor (List ℕ)) → Option (Front A)
front None = none
front (Some read) = some (record { item = read.0; rest = read.1.now })

-- a digit, then what depends on it
abbrev pub then_digit : Option ℕ → (ℕ → Option ℕ) → Option ℕ
then_digit none go = none
then_digit (some d) go = go d

-- the number that bytes stand for in a base, after those that stand for n, if all are digits
abbrev pub number_of : (base n : ℕ) → List ℕ → Option ℕ
number_of base n [] = some n
number_of base n (b ∷ text) = then_digit (digit_of base b) λ d. number_of base (n * base + d) text

-- the control bytes and the words of entries
pub record Columns : Type 0 where
  pub controls : List ℕ
  pub words : List ℕ

abbrev pub columns : Option (List Entry) → Option Columns
columns none = none
columns (some es) = some (record { controls = map (λ e. e.control) es; words = map (λ e. e.word) es })

-- the two, where lines were read
abbrev pub columns_read : Answer (Unit {0}) → (controls words : List ℕ) → Option Columns
columns_read None controls words = none
columns_read (Some _) controls words = some (record { controls = controls; words = words })
