-- What each answer of `reading` means: a trace is read exactly from its text, 3 is given exactly for a good header that announces
-- too many cycles, and 9 exactly for every other text. `proofs/RoundTrip.antt` has the proofs. Assumes nothing.
use Rattle.std.specs.Prelude.{ℕ, ◌<◌, ◌≤◌, ◌^◌, Bool, List, [], ◌∷◌, ◌++◌, ◌↔◌, ◌≡◌, length}
use Rattle.trace_text.specs.declared.Entry.{Entry}
use Rattle.trace_text.specs.declared.Parsed.{Parsed as Header}
use Rattle.trace_text.specs.Form.{max_announced, Trace, trace, refused, trace_from, reading, header_lines, text_of}

-- what a byte of control and 32 bits of data can hold; the control byte need not be legal
pub record Holds (e : Entry) : Type 0 where
  pub control : e.control < 256
  pub word : e.word < 2 ^ 32

abbrev pub AllHold : List Entry → Type 0
AllHold [] = Unit {0}
AllHold (e ∷ es) = Holds e × AllHold es

-- A text is of the form: it is the text of entries, at most as many as may be announced, and this is their trace.
pub record OfForm (text : List ℕ) (t : Trace) : Type 0 where
  pub seq : Bool
  pub entries : List Entry
  pub few : length entries ≤ max_announced
  pub hold : AllHold entries
  pub text_is : text ≡ text_of seq entries
  pub trace_is : t ≡ trace_from seq entries

-- A text has a good header that announces too many cycles, in five digits at most; whatever follows.
pub record TooMany (text : List ℕ) : Type 0 where
  pub header : Header
  pub rest : List ℕ
  pub many : max_announced < header.cycles
  pub digits : header.cycles < 100000
  pub text_is : text ≡ header_lines header ++ rest

-- the text of a trace reads as that trace
abbrev pub ReadsBack : Type 0
ReadsBack = (seq : Bool) (es : List Entry) → length es ≤ max_announced → AllHold es → reading (text_of seq es) ≡ trace (trace_from seq es)

-- what each answer means, for any text
pub record Means (text : List ℕ) : Type 0 where
  pub trace_exactly : (t : Trace) → (reading text ≡ trace t) ↔ OfForm text t
  pub three_exactly : (reading text ≡ refused 3) ↔ TooMany text
  pub nine_exactly : (reading text ≡ refused 9) ↔ (((t : Trace) → OfForm text t → ⊥) × (TooMany text → ⊥))
