-- Document 01, "Memory rules": what the answers of `check_mem` and `check_mem_decoupled` mean, cycle by cycle.
-- `every_answer_lem` of `proofs/Meaning.antt` proves it for every input, `direction_by_index_lem` of `proofs/Direction.antt` for rule 4.
-- Assumes nothing.
use Rattle.std.specs.Prelude.{ℕ, suc, ◌<◌, true, false, List, ◌↔◌, ◌≡◌, length}
use Rattle.signals.specs.Tables.{Row, NoneIn}
use Rattle.signals.specs.Memory.{Access, access_at, granted}
use Rattle.signals.specs.Written as written
use Rattle.mem_checker.specs.Rules.{Protocol, mem, rules, breaks4}
use Rattle.mem_checker.specs.Verdicts.{Answer, grounds, check_mem}

-- the protocol is HWPE-Mem, nothing is refused, none of n cycles breaks a rule, and the last of them has req, gnt and wen 1
pub record Open (protocol : Protocol) (grounds : List (Row ℕ)) (trace : ℕ → Access) (n : ℕ) : Type 0 where
  pub is_mem : protocol ≡ mem
  pub accepted : NoneIn grounds
  pub unbroken : (c : ℕ) → c < n → NoneIn (rules protocol trace c)
  pub last : ℕ
  pub is_last : suc last ≡ n
  pub req : (trace last).req ≡ true
  pub gnt : (trace last).gnt ≡ true
  pub wen : (trace last).wen ≡ true

-- What an answer to four sequences means: when it is refused, clean or broken, and the handshake count of each (`clean_count`, `broken_count`,
-- `refused_count`), as signals' `Meaning` says; and when it is open.
pub record Meaning (protocol : Protocol) (grounds : List (Row ℕ)) (trace : ℕ → Access) (n : ℕ) (answer : Answer) : Type 0 where
  pub judged : written.Meaning grounds (rules protocol trace) (λ c. granted (trace c)) n answer.judgement
  pub open_exactly : (answer.«open» ≡ true) ↔ Open protocol grounds trace n

-- what both calls answer
abbrev pub EveryAnswer : Type 0
EveryAnswer =
    (protocol : Protocol) (controls adds : List ℕ) (datas rDatas : ℕ) →
    Meaning protocol (grounds (length controls) (length adds) datas rDatas) (access_at controls adds) (length controls)
    (check_mem protocol controls adds datas rDatas)

-- cycle b is the first handshake of a trace, and stands before cycle c
pub record FirstHandshake (trace : ℕ → Access) (c b : ℕ) : Type 0 where
  pub before : b < c
  pub shaken : granted (trace b) ≡ true
  pub earlier : (a : ℕ) → a < b → granted (trace a) ≡ false

-- cycle c is a handshake, and the first handshake, before it, has another wen
pub record Turns (trace : ℕ → Access) (c : ℕ) : Type 0 where
  pub first : ℕ
  pub is_first : FirstHandshake trace c first
  pub shaken : granted (trace c) ≡ true
  pub other : (trace c).wen ≡ (trace first).wen → ⊥

-- rule 4 by index
abbrev pub DirectionByIndex : Type 0
DirectionByIndex = (trace : ℕ → Access) (c : ℕ) → (breaks4 trace c ≡ true) ↔ Turns trace c
