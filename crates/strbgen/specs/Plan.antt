-- Document 01, "Strobe plan": how many words the packets take, and the strobe of each. m is the byte address's remainder by 4,
-- and n the number of packets. Assumes nothing.
use Rattle.std.specs.Prelude.{ℕ, ◌+◌, ◌%◌, Bool, cond, ◌||◌, ◌&&◌, List, [], ◌∷◌, ◌++◌, ◌≡◌, eqb, ltb, length, get_or, drop, Result}
use Rattle.std.specs.Result.{result_unwrap_or}
use Rattle.signals.specs.Tables.{Row, ◌⇐◌, first_applying}
use Rattle.signals.specs.Refusals.{refusal_of, accepts}
use Rattle.signals.specs.Sequences.{entries_below, every_below}
use Rattle.signals.specs.declared.Refusal.{Refusal}

-- how many packets a plan may have
abbrev pub max_packets : ℕ
max_packets = 65535

-- n words if m = 0 or n = 0, else n + 1
abbrev pub word_count : ℕ → ℕ → ℕ
word_count m n = cond (eqb m 0 || eqb n 0) n (n + 1)

-- the table's column "first", m = 0 to 3
abbrev pub first_strobes : List ℕ
first_strobes = 15 ∷ 14 ∷ 12 ∷ 8 ∷ []

-- the table's column "last", m = 0 to 3
abbrev pub last_strobes : List ℕ
last_strobes = 15 ∷ 1 ∷ 3 ∷ 7 ∷ []

abbrev pub first_strobe : ℕ → ℕ
first_strobe m = get_or first_strobes m 0

abbrev pub last_strobe : ℕ → ℕ
last_strobe m = get_or last_strobes m 0

-- the strobe of word i in a plan of so many words: the first word's, the last word's, and 15 for all others
abbrev pub strobe_at : ℕ → ℕ → ℕ → ℕ
strobe_at m words i = cond (eqb i 0) (first_strobe m) (cond (eqb (i + 1) words) (last_strobe m) 15)

-- all strobes of a plan of so many words
abbrev pub strobes : ℕ → ℕ → List ℕ
strobes m words = entries_below (strobe_at m words) words

-- whether strobes are the plan's: as many as it has words, and each that of its word
abbrev pub is_plan : (m n : ℕ) → List ℕ → Bool
is_plan m n given =
    eqb (length given) (word_count m n) &&
    every_below (λ i. eqb (get_or given i 0) (strobe_at m (word_count m n) i)) (word_count m n)

-- refusals 3 and 7 in this order: more packets than a plan may have, a buffer of fewer bytes than the plan has words
abbrev pub grounds : (address n room : ℕ) → List (Row ℕ)
grounds address n room = 3 ⇐ ltb max_packets n ∷ 7 ⇐ ltb room (word_count (address % 4) n) ∷ []

-- the words of the plan; refused, none
abbrev pub words_of : (address n room : ℕ) → ℕ
words_of address n room = cond (accepts (first_applying (grounds address n room))) (word_count (address % 4) n) 0

-- what a call answers (refused, it counts no words), and what its buffer holds afterwards: the strobes from its start, and beyond them
-- what it had before
pub record Planned (address n : ℕ) (before after : List ℕ) (answered : Result ℕ Refusal) : Type 0 where
  pub refusal : refusal_of answered ≡ first_applying (grounds address n (length before))
  pub words : result_unwrap_or answered 0 ≡ words_of address n (length before)
  pub written : after ≡ strobes (address % 4) (result_unwrap_or answered 0) ++ drop (result_unwrap_or answered 0) before
