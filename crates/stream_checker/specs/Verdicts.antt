-- Document 01, "Stream rules" and "Refusal numbers", with request T-09: the verdict of a trace, and beside it the handshakes and the clear
-- cycles. Assumes nothing.
use Rattle.std.specs.Prelude.{ℕ, Bool, not, List, [], ◌∷◌, length, eqb, ltb}
use Rattle.signals.specs.Refusals.{max_cycles, any_of}
use Rattle.signals.specs.Stream.{Sample, sample_at, clear_cycle, handshake, reserved_bit}
use Rattle.signals.specs.Tables.{Row, ◌⇐◌, first_applying}
use Rattle.signals.specs.Judging.{count_below, cycles_counted}
use Rattle.signals.specs.Written.{Written, judged, refused, Judgement, judgement, unless_refused}
use Rattle.stream_checker.specs.Rules.{rules}

-- the grounds for refusing a trace, in the order in which they are tried
abbrev pub grounds : (controls words : List ℕ) → List (Row ℕ)
grounds controls words =
    1 ⇐ not (eqb (length controls) (length words))
    ∷ 3 ⇐ ltb max_cycles (length controls)
    ∷ 2 ⇐ any_of reserved_bit controls
    ∷ []

-- which cycles of a trace are handshakes
abbrev pub handshake_at : (ℕ → Sample) → ℕ → Bool
handshake_at trace c = handshake (trace c)

-- the verdict on the first n cycles, with the handshakes before the broken cycle, or in all cycles when clean
abbrev pub judged_below : (seq_on : Bool) → (ℕ → Sample) → ℕ → Judgement
judged_below seq_on trace n = judgement (rules seq_on trace) (handshake_at trace) n

-- which of them are clear cycles
abbrev pub clear_at : (ℕ → Sample) → ℕ → Bool
clear_at trace c = clear_cycle (trace c)

-- the clear cycles before the broken one, or among all n when clean; 0 when refused
abbrev pub clears_by : Written → (ℕ → Sample) → ℕ → ℕ
clears_by (judged finding) trace n = count_below (clear_at trace) (cycles_counted finding n)
clears_by (refused number) trace n = 0

-- what the checker answers
pub record Answer : Type 0 where
  pub judgement : Judgement
  pub clears : ℕ

-- a judgement of n cycles, with their clear cycles
abbrev pub answer : (ℕ → Sample) → ℕ → Judgement → Answer
answer trace n j = record { judgement = j; clears = clears_by j.verdict trace n }

-- the answer to the first n cycles of a trace, whatever their number
abbrev pub answer_below : (seq_on : Bool) → (ℕ → Sample) → ℕ → Answer
answer_below seq_on trace n = answer trace n (judged_below seq_on trace n)

-- what `check_stream` answers to any two sequences
unfoldable pub check_stream : (controls words : List ℕ) → (seq_on : Bool) → Answer
check_stream controls words seq_on =
    answer (sample_at controls words) (length controls)
    (unless_refused (first_applying (grounds controls words)) (judged_below seq_on (sample_at controls words) (length controls)))
