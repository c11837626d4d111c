-- Document 01, "Fixed-select mux": the part of one of two traces that is handed on, where it lies and what it holds. Assumes nothing.
use Rattle.std.specs.Prelude.{ℕ, ◌+◌, Bool, cond, ◌||◌, List, [], ◌∷◌, eqb, ltb, length, take, drop}
use Rattle.std.specs.Borrow.{Bor}
use Rattle.signals.specs.Tables.{Row, ◌⇐◌, first_applying}
use Rattle.signals.specs.Refusals.{accepts}

-- a lent trace of control bytes
abbrev pub Trace : Type 0
Trace = Bor (List ℕ)

-- a part of a trace: the memory block it lies in, the place in that block where it begins, and what it holds
pub record Part : Type 0 where
  pub block : ℕ
  pub start : ℕ
  pub bytes : List ℕ

-- what a reference refers to
abbrev pub part_at : Trace → Part
part_at r = record { block = r.ref_ptr.0; start = r.ref_ptr.1; bytes = r.now }

-- the part of a trace, itself, that begins at cycle `first` and has `count` cycles
abbrev pub part_of : Trace → ℕ → ℕ → Part
part_of t first count = record { block = t.ref_ptr.0; start = first + t.ref_ptr.1; bytes = take count (drop first t.now) }

-- trace 0 for select 0, else trace 1
abbrev pub selected : Trace → Trace → ℕ → Trace
selected t0 t1 select = cond (eqb select 0) t0 t1

-- refusal 8: select above 1, count 0, or a part reaching past the selected trace, of `cycles` cycles
abbrev pub out_of_range : ℕ → ℕ → ℕ → ℕ → Bool
out_of_range cycles select first count = ltb 1 select || eqb count 0 || ltb cycles (first + count)

abbrev pub grounds : Trace → Trace → ℕ → ℕ → ℕ → List (Row ℕ)
grounds t0 t1 select first count =
    8 ⇐ out_of_range (length (selected t0 t1 select).now) select first count ∷ []

-- the part of the selected trace; refused, the empty part at the start of trace 0
abbrev pub muxed : Trace → Trace → ℕ → ℕ → ℕ → Part
muxed t0 t1 select first count =
    cond (accepts (first_applying (grounds t0 t1 select first count))) (part_of (selected t0 t1 select) first count)
    (part_of t0 0 0)
