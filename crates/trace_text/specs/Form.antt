-- Document 01, "Bench text": the form of a bench text, line by line, and the text of a trace. Assumes nothing.
use Rattle.std.specs.Prelude.{ℕ, zero, suc, ◌+◌, ◌*◌, Bool, true, false, cond, ◌&&◌, ◌||◌, List, [], ◌∷◌, ◌++◌, map, length, eqb, leb, ltb}
use Rattle.std.proofs.Math.Option.{Option, none, some}
use Rattle.signals.specs.Tables.{Row, ◌⇐◌, first_applying}
use Rattle.trace_text.specs.declared.Entry.{Entry}
use Rattle.trace_text.specs.declared.Parsed.{Parsed as Header}
use Rattle.trace_text.specs.Digits.{bytes, digit_of, fixed, number_from, decimal}

-- the longest trace that a text may announce
abbrev pub max_announced : ℕ
max_announced = 4096

-- A trace with its switch.
pub record Trace : Type 0 where
  pub seq : Bool
  pub controls : List ℕ
  pub words : List ℕ

-- What reading a text gives: a trace, or the number of a refusal.
pub data Reading : Type 0 where
  trace : Trace → Reading
  refused : ℕ → Reading

-- What is read at the front of a text, and the text after it.
pub record Front (A : Type 0) : Type 0 where
  pub item : A
  pub rest : List ℕ

module _ {A B : Type 0} where
  -- one item, then what depends on it
  abbrev pub then : Option (Front A) → (A → List ℕ → Option B) → Option B
  then none go = none
  then (some front) go = go front.item front.rest

-- given bytes
abbrev pub literal : (given text : List ℕ) → Option (Front (Unit {0}))
literal [] text = some (record { item = tt; rest = text })
literal (g ∷ gs) [] = none
literal (g ∷ gs) (b ∷ text) = cond (eqb b g) (literal gs text) none

-- one or the other
abbrev pub or_else : {A : Type 0} → Option A → Option A → Option A
or_else none other = other
or_else (some a) other = some a

-- seq=on or seq=off
abbrev pub switch : List ℕ → Option (Front Bool)
switch text =
    or_else (then (literal (bytes "seq=on\n") text) (λ _ rest. some (record { item = true; rest = rest })))
    (then (literal (bytes "seq=off\n") text) (λ _ rest. some (record { item = false; rest = rest })))

-- a digit before others
abbrev pub before : ℕ → Front (List ℕ) → Front (List ℕ)
before d front = record { item = d ∷ front.item; rest = front.rest }

-- a byte that is no digit ends them
abbrev pub or_end : Option ℕ → (text : List ℕ) → Front (List ℕ) → Front (List ℕ)
or_end none text front = record { item = []; rest = text }
or_end (some d) text front = before d front

-- the decimal digits at the front of a text
abbrev pub digits : List ℕ → Front (List ℕ)
digits [] = record { item = []; rest = [] }
digits (b ∷ text) = or_end (digit_of 10 b) (b ∷ text) (digits text)

-- one to five digits, no leading zero but 0 itself
abbrev pub legal_number : (digits : List ℕ) → Bool
legal_number [] = false
legal_number (d ∷ ds) = leb (length ds) 4 && (leb 1 d || eqb (length ds) 0)

-- a number at the front of a text
abbrev pub number : List ℕ → Option (Front ℕ)
number text =
    cond (legal_number (digits text).item)
    (some (record { item = number_from 10 0 (digits text).item; rest = (digits text).rest }))
    none

-- cycles=N
abbrev pub announced : List ℕ → Option (Front ℕ)
announced text =
    then (literal (bytes "cycles=") text) λ _ rest.
    then (number rest) λ cycles rest.
    then (literal (bytes "\n") rest) λ _ rest.
    some (record { item = cycles; rest = rest })

-- a digit that was read, and the text after it
abbrev pub at_front : Option ℕ → (rest : List ℕ) → Option (Front ℕ)
at_front none rest = none
at_front (some d) rest = some (record { item = d; rest = rest })

-- one hex digit
abbrev pub hex_digit : List ℕ → Option (Front ℕ)
hex_digit [] = none
hex_digit (b ∷ text) = at_front (digit_of 16 b) text

-- k hex digits, after those that stand for n
abbrev pub hex_from : (n k : ℕ) → List ℕ → Option (Front ℕ)
hex_from n zero text = some (record { item = n; rest = text })
hex_from n (suc k) text = then (hex_digit text) λ d rest. hex_from (n * 16 + d) k rest

-- c= with two hex digits of control and eight of data
abbrev pub cycle_line : List ℕ → Option (Front Entry)
cycle_line text =
    then (literal (bytes "c=") text) λ _ rest.
    then (hex_from 0 2 rest) λ control rest.
    then (hex_from 0 8 rest) λ word rest.
    then (literal (bytes "\n") rest) λ _ rest.
    some (record { item = record { control = control; word = word }; rest = rest })

-- an entry before others, if they are there
abbrev pub with_entry : Entry → Option (List Entry) → Option (List Entry)
with_entry e none = none
with_entry e (some es) = some (e ∷ es)

-- no entry, at the end of the text
abbrev pub at_end : List ℕ → Option (List Entry)
at_end [] = some []
at_end (b ∷ text) = none

-- n cycle lines, and nothing after them
abbrev pub cycle_lines : (n : ℕ) → List ℕ → Option (List Entry)
cycle_lines zero text = at_end text
cycle_lines (suc n) text = then (cycle_line text) λ e rest. with_entry e (cycle_lines n rest)

-- the three header lines
abbrev pub header : List ℕ → Option (Front Header)
header text =
    then (literal (bytes "kind=stream\n") text) λ _ rest.
    then (switch rest) λ seq rest.
    then (announced rest) λ cycles rest.
    some (record { item = record { seq = seq; cycles = cycles }; rest = rest })

-- the cycle lines that a header announces
abbrev pub lines_after : Option (Front Header) → Option (List Entry)
lines_after none = none
lines_after (some front) = cycle_lines front.item.cycles front.rest

-- whether a header announces more cycles than a text may
abbrev pub too_many : Option (Front Header) → Bool
too_many none = false
too_many (some front) = ltb max_announced front.item.cycles

abbrev pub missing : {A : Type 0} → Option A → Bool
missing none = true
missing (some a) = false

-- The grounds for refusing a text with this header, in the order in which they are tried: a bad header line; too many cycles; a bad,
-- missing or surplus cycle line.
abbrev pub grounds : Option (Front Header) → List (Row ℕ)
grounds head =
    9 ⇐ missing head
    ∷ 3 ⇐ too_many head
    ∷ 9 ⇐ missing (lines_after head)
    ∷ []

-- the trace of entries
abbrev pub trace_from : (seq : Bool) → List Entry → Trace
trace_from seq es = record { seq = seq; controls = map (λ e. e.control) es; words = map (λ e. e.word) es }

-- the trace of a header and its lines, if both are there
abbrev pub seq_in : Option (Front Header) → Bool
seq_in none = false
seq_in (some front) = front.item.seq

abbrev pub entries_in : Option (List Entry) → List Entry
entries_in none = []
entries_in (some es) = es

abbrev pub trace_in : Option (Front Header) → Trace
trace_in head = trace_from (seq_in head) (entries_in (lines_after head))

abbrev pub read_unless : (refusal : Option ℕ) → Trace → Reading
read_unless none t = trace t
read_unless (some n) t = refused n

-- what a whole text reads as
unfoldable pub reading : (text : List ℕ) → Reading
reading text = read_unless (first_applying (grounds (header text))) (trace_in (header text))

-- the line of an entry
abbrev pub entry_line : Entry → List ℕ
entry_line e = bytes "c=" ++ fixed 16 2 e.control ++ fixed 16 8 e.word ++ bytes "\n"

abbrev pub entry_lines : List Entry → List ℕ
entry_lines [] = []
entry_lines (e ∷ es) = entry_line e ++ entry_lines es

-- the lines of a header
abbrev pub switch_line : Bool → List ℕ
switch_line true = bytes "seq=on\n"
switch_line false = bytes "seq=off\n"

abbrev pub header_lines : Header → List ℕ
header_lines h = bytes "kind=stream\n" ++ switch_line h.seq ++ bytes "cycles=" ++ decimal h.cycles ++ bytes "\n"

-- the text of a trace
abbrev pub text_of : (seq : Bool) → List Entry → List ℕ
text_of seq es = header_lines (record { seq = seq; cycles = length es }) ++ entry_lines es
