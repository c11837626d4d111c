-- Document 01, "Memory rules" and "Refusal numbers": the verdict of a memory trace, its handshake count, and whether it is open,
-- in the paper's numbers and names. Assumes nothing.
use Rattle.std.specs.Prelude.{ℕ, zero, suc, Bool, false, not, ◌&&◌, List, [], ◌∷◌, length, eqb, ltb}
use Rattle.signals.specs.Tables.{Row, ◌⇐◌, first_applying}
use Rattle.signals.specs.Refusals.{max_cycles}
use Rattle.signals.specs.Memory.{Access, access_at, granted}
use Rattle.signals.specs.Judging.{clean, broken}
use Rattle.signals.specs.Written.{Written, judged, refused, Judgement, judgement, unless_refused}
use Rattle.mem_checker.specs.Rules.{Protocol, mem, mem_decoupled, rules, read_handshake}

-- the grounds for refusing a trace, by its four lengths, in the order in which they are tried
abbrev pub grounds : (controls adds datas rDatas : ℕ) → List (Row ℕ)
grounds controls adds datas rDatas =
    1 ⇐ not (eqb adds controls && (eqb datas controls && eqb rDatas controls))
    ∷ 3 ⇐ ltb max_cycles controls
    ∷ []

-- the verdict on the first n cycles of a trace, and the count
abbrev pub judged_by : Protocol → (ℕ → Access) → ℕ → Judgement
judged_by protocol trace n = judgement (rules protocol trace) (λ c. granted (trace c)) n

-- the last of n cycles is a read handshake
abbrev pub ends_in_read : (ℕ → Access) → ℕ → Bool
ends_in_read trace zero = false
ends_in_read trace (suc c) = read_handshake (trace c)

-- Open: a clean HWPE-Mem trace whose last cycle is a read handshake, and nothing else.
abbrev pub is_open : Written → Protocol → (ℕ → Access) → ℕ → Bool
is_open (judged clean) mem trace n = ends_in_read trace n
is_open (judged clean) mem_decoupled trace n = false
is_open (judged (broken rule c)) protocol trace n = false
is_open (refused number) protocol trace n = false

-- what a checker answers
pub record Answer : Type 0 where
  pub judgement : Judgement
  pub «open» : Bool

-- a judgement of n cycles, and whether they are open
abbrev pub answer : Protocol → (ℕ → Access) → ℕ → Judgement → Answer
answer protocol trace n j = record { judgement = j; «open» = is_open j.verdict protocol trace n }

-- what a checker answers to any four sequences; of data and r_data only the lengths count
unfoldable pub check_mem : Protocol → (controls adds : List ℕ) → (datas rDatas : ℕ) → Answer
check_mem protocol controls adds datas rDatas =
    answer protocol (access_at controls adds) (length controls)
    (unless_refused (first_applying (grounds (length controls) (length adds) datas rDatas))
    (judged_by protocol (access_at controls adds) (length controls)))
