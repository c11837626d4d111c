-- Document 01, "Stream rules", with requests T-04 and T-09: what the answer of `check_stream` means, cycle by cycle, which strobes go
-- with a counter, rule seq by index, and what a clear cycle does to the judging. `proofs/Meaning.antt`, `proofs/Strobes.antt`,
-- `proofs/Counters.antt` and `proofs/Clears.antt` have the proofs. Assumes nothing.
use Rattle.std.specs.Prelude.{ℕ, suc, ◌+◌, ◌<◌, Bool, true, false, ◌&&◌, List, [], ◌∷◌, ◌↔◌, ◌≡◌, length, eqb}
use Rattle.signals.specs.Payloads.{legal_strb}
use Rattle.signals.specs.Refusals.{any_of}
use Rattle.signals.specs.Judging.{clean, broken, count_below}
use Rattle.signals.specs.Stream.{Sample, sample_at, clear_cycle, handshake}
use Rattle.signals.specs.Tables.{Row}
use Rattle.signals.specs.Written as written
use Rattle.signals.specs.Written.{RuleName, judged, refused}
use Rattle.stream_checker.specs.Rules.{carries_counter, counter, after_counter, breaks_seq, rules}
use Rattle.stream_checker.specs.Verdicts.{Answer, grounds, handshake_at, clear_at, check_stream}

-- What an answer means: when it is refused, clean or broken, and its handshakes, as signals' `Meaning` says; and its clear cycles, in all
-- cycles, in those before the broken one, or none.
pub record Meaning (grounds : List (Row ℕ)) (seq_on : Bool) (trace : ℕ → Sample) (n : ℕ) (answer : Answer) : Type 0 where
  pub judges : written.Meaning grounds (rules seq_on trace) (handshake_at trace) n answer.judgement
  pub clean_clears : answer.judgement.verdict ≡ judged clean → answer.clears ≡ count_below (clear_at trace) n
  pub broken_clears :
      (rule : RuleName) (c : ℕ) → answer.judgement.verdict ≡ judged (broken rule c) → answer.clears ≡ count_below (clear_at trace) c
  pub refused_clears : (number : ℕ) → answer.judgement.verdict ≡ refused number → answer.clears ≡ 0

-- every answer means what it says: by the grounds, by the rules cycle by cycle, and by its two counts
abbrev pub EveryAnswer : Type 0
EveryAnswer =
    (controls words : List ℕ) (seq_on : Bool) →
    Meaning (grounds controls words) seq_on (sample_at controls words) (length controls) (check_stream controls words seq_on)

-- the strobes of bytes 0 and 1 are both 1, whatever those of bytes 2 and 3 are
abbrev pub carrying_strobes : List ℕ
carrying_strobes = 3 ∷ 7 ∷ 11 ∷ 15 ∷ []

-- a cycle carries a counter exactly where it is a handshake under one of these
abbrev pub CounterByStrobe : Type 0
CounterByStrobe =
    (s : Sample) → legal_strb s.payload ≡ true →
    carries_counter s ≡ (handshake s && any_of (eqb s.payload.strb) carrying_strobes)

-- cycle b is the last before cycle c that carries a counter, and no clear cycle lies between them
pub record LastCarrier (trace : ℕ → Sample) (c b : ℕ) : Type 0 where
  pub before : b < c
  pub carries : carries_counter (trace b) ≡ true
  pub later : (a : ℕ) → b < a → a < c → carries_counter (trace a) ≡ false
  pub unclear : (a : ℕ) → b < a → a < c → clear_cycle (trace a) ≡ false

-- cycle c carries a counter, some cycle before it did since the last clear cycle, and the counter is not the one after the last of those
pub record LeavesSequence (trace : ℕ → Sample) (c : ℕ) : Type 0 where
  pub last : ℕ
  pub is_last : LastCarrier trace c last
  pub carries : carries_counter (trace c) ≡ true
  pub other : counter (trace c) ≡ after_counter (counter (trace last)) → ⊥

-- rule seq by index
abbrev pub SeqByIndex : Type 0
SeqByIndex = (trace : ℕ → Sample) (c : ℕ) → (breaks_seq trace c ≡ true) ↔ LeavesSequence trace c

-- after a clear cycle the judging starts afresh: the cycles behind it are judged as a trace of their own
abbrev pub Afresh : Type 0
Afresh =
    (seq_on : Bool) (trace : ℕ → Sample) (c : ℕ) → clear_cycle (trace c) ≡ true →
    (k : ℕ) → rules seq_on trace (suc c + k) ≡ rules seq_on (λ i. trace (suc c + i)) k
