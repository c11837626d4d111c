-- Request T-10: what `realign_sink` answers, and what it leaves in the lent buffers. m is the byte address's remainder by 4.
-- Assumes nothing.
use Rattle.std.specs.Prelude.{ℕ, ◌-◌, ◌%◌, cond, ◌||◌, List, [], ◌∷◌, ◌++◌, ◌≡◌, ltb, length, drop, Result}
use Rattle.std.specs.Result.{result_unwrap_or}
use Rattle.std.proofs.Math.Option.{Option}
use Rattle.signals.specs.Tables.{Row, ◌⇐◌, first_applying}
use Rattle.signals.specs.Refusals.{refusal_of, accepts}
use Rattle.signals.specs.declared.Refusal.{Refusal}
use Rattle.strbgen.specs.Plan.{max_packets, word_count, strobes}
use Rattle.realign.specs.Bytes.{bytes_of, nulls, cut}

-- the packets' bytes, with m null bytes in front and null bytes up to a word at the end
abbrev pub padded : (m : ℕ) → (packets : List ℕ) → List ℕ
padded m packets = nulls m ++ (bytes_of packets ++ nulls ((4 - m) % 4))

-- cut into the plan's words
abbrev pub words_of : (m : ℕ) → (packets : List ℕ) → List ℕ
words_of m packets = cut (padded m packets) (word_count m (length packets))

-- the plan's strobes
abbrev pub strobes_of : (m : ℕ) → (packets : List ℕ) → List ℕ
strobes_of m packets = strobes m (word_count m (length packets))

-- refusals 3 and 7 in this order: more packets than a plan may have; in either buffer, less room than the plan has words
abbrev pub grounds : (m : ℕ) → (packets : List ℕ) → (wordRoom strobeRoom : ℕ) → List (Row ℕ)
grounds m packets wordRoom strobeRoom =
    3 ⇐ ltb max_packets (length packets)
    ∷ 7 ⇐ (ltb wordRoom (word_count m (length packets)) || ltb strobeRoom (word_count m (length packets)))
    ∷ []

-- The refusal, if there is one, in document 01's numbers; the words, and the strobe of each.
pub record Answer : Type 0 where
  pub refusal : Option ℕ
  pub words : List ℕ
  pub strobes : List ℕ

-- what `realign_sink` answers; refused, nothing is made
abbrev pub sink : (address : ℕ) → (packets : List ℕ) → (wordRoom strobeRoom : ℕ) → Answer
sink address packets wordRoom strobeRoom =
    let refusal : Option ℕ = first_applying (grounds (address % 4) packets wordRoom strobeRoom) in
    record {
      refusal = refusal;
      words = cond (accepts refusal) (words_of (address % 4) packets) [];
      strobes = cond (accepts refusal) (strobes_of (address % 4) packets) [];
    }

-- what a call answers, and what its buffers hold afterwards: what was made from their start, and past it what they had before
pub record Sinks (address : ℕ) (packets words wordsLeft strobes strobesLeft : List ℕ) (answered : Result ℕ Refusal) : Type 0 where
  pub refusal : refusal_of answered ≡ (sink address packets (length words) (length strobes)).refusal
  pub count : result_unwrap_or answered 0 ≡ length (sink address packets (length words) (length strobes)).words
  pub words_written : wordsLeft ≡ (sink address packets (length words) (length strobes)).words ++ drop (result_unwrap_or answered 0) words
  pub strobes_written :
      strobesLeft ≡ (sink address packets (length words) (length strobes)).strobes ++ drop (result_unwrap_or answered 0) strobes
