-- Document 01, "Traces as recorded": the control byte of a memory trace, and a cycle of such a trace.
-- Each bit by a definition of its own: one over the bit's place would divide by 1 for bit 0. Assumes nothing.
use Rattle.std.specs.Prelude.{ℕ, ◌/◌, ◌%◌, Bool, ◌&&◌, List, get_or, eqb}

-- bit 0
abbrev pub req_bit : ℕ → Bool
req_bit control = eqb (control % 2) 1

-- bit 1
abbrev pub gnt_bit : ℕ → Bool
gnt_bit control = eqb (control / 2 % 2) 1

-- bit 2, where 1 is read
abbrev pub wen_bit : ℕ → Bool
wen_bit control = eqb (control / 4 % 2) 1

-- bit 3
abbrev pub r_valid_bit : ℕ → Bool
r_valid_bit control = eqb (control / 8 % 2) 1

-- what is judged of one cycle of a memory trace
pub record Access : Type 0 where
  pub req : Bool
  pub gnt : Bool
  pub wen : Bool
  pub r_valid : Bool
  pub add : ℕ

-- the access that a control byte and an address record
abbrev pub access : ℕ → ℕ → Access
access control add =
    record {
      req = req_bit control;
      gnt = gnt_bit control;
      wen = wen_bit control;
      r_valid = r_valid_bit control;
      add = add;
    }

-- a trace, cycle by cycle
abbrev pub access_at : List ℕ → List ℕ → ℕ → Access
access_at controls adds c = access (get_or controls c 0) (get_or adds c 0)

-- a cycle with req and gnt both 1
abbrev pub granted : Access → Bool
granted a = a.req && a.gnt
