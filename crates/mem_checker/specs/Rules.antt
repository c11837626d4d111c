-- Document 01, "Memory rules": what it means that a cycle of a memory trace breaks a rule, and the rules of each protocol in order.
-- A trace is an access for each cycle. Assumes nothing.
use Rattle.std.specs.Prelude.{ℕ, zero, suc, ◌%◌, Bool, false, cond, not, ◌&&◌, List, [], ◌∷◌, eqb}
use Rattle.std.specs.Bool.{beq}
use Rattle.std.proofs.Math.Option.{Option, none, some}
use Rattle.signals.specs.Tables.{Row, ◌⇐◌}
use Rattle.signals.specs.Memory.{Access, granted}
use Rattle.signals.specs.Written.{RuleName, number, align}

-- a handshake with wen 1
abbrev pub read_handshake : Access → Bool
read_handshake a = granted a && a.wen

-- HWPE-Mem rule 2: after a read handshake in cycle c - 1, r_valid is 1 in cycle c. The first cycle has no predecessor.
abbrev pub breaks2 : (ℕ → Access) → ℕ → Bool
breaks2 trace zero = false
breaks2 trace (suc c) = read_handshake (trace c) && not (trace (suc c)).r_valid

-- the wen of an earlier handshake, or of this one
abbrev pub or_wen_of : Option Bool → Access → Option Bool
or_wen_of (some wen) a = some wen
or_wen_of none a = cond (granted a) (some a.wen) none

-- the wen of the first handshake before cycle c, if there was one
abbrev pub first_wen : (ℕ → Access) → ℕ → Option Bool
first_wen trace zero = none
first_wen trace (suc c) = or_wen_of (first_wen trace c) (trace c)

-- another wen than the first handshake's, if there was one
abbrev pub differs : Option Bool → Bool → Bool
differs none wen = false
differs (some first) wen = not (beq wen first)

-- HWPE-MemDecoupled rule 4: each handshake has the wen of the first handshake.
abbrev pub breaks4 : (ℕ → Access) → ℕ → Bool
breaks4 trace c = granted (trace c) && differs (first_wen trace c) (trace c).wen

-- Rule align: in a cycle with req 1, add is a multiple of 4.
abbrev pub breaks_align : Access → Bool
breaks_align a = a.req && not (eqb (a.add % 4) 0)

pub data Protocol : Type 0 where
  mem : Protocol
  mem_decoupled : Protocol

-- the rules of a protocol, in the order within one cycle, each with whether cycle c breaks it
abbrev pub rules : Protocol → (ℕ → Access) → ℕ → List (Row RuleName)
rules mem trace c = number 2 ⇐ breaks2 trace c ∷ align ⇐ breaks_align (trace c) ∷ []
rules mem_decoupled trace c = number 4 ⇐ breaks4 trace c ∷ align ⇐ breaks_align (trace c) ∷ []
