-- Request T-10: what `realign_source` answers, and what it leaves in the lent buffer. m is the byte address's remainder by 4, and n the
-- number of packets. Assumes nothing.
use Rattle.std.specs.Prelude.{ℕ, zero, suc, ◌*◌, ◌/◌, ◌%◌, Bool, cond, not, List, [], ◌∷◌, ◌++◌, ◌≡◌, eqb, ltb, length, get_or, drop, Result}
use Rattle.std.specs.Result.{result_unwrap_or}
use Rattle.std.proofs.Math.Option.{Option}
use Rattle.signals.specs.Payloads.{strobed}
use Rattle.signals.specs.Tables.{Row, ◌⇐◌, first_applying}
use Rattle.signals.specs.Refusals.{refusal_of, accepts}
use Rattle.signals.specs.declared.Refusal.{Refusal}
use Rattle.strbgen.specs.Plan.{max_packets, is_plan}
use Rattle.realign.specs.Bytes.{byte_at, cut}

-- whether the strobe of byte k is 1, counted from the first word's start
abbrev pub named : (strobes : List ℕ) → (k : ℕ) → Bool
named strobes k = strobed (get_or strobes (k / 4) 0) (k % 4)

-- of the first `count` bytes those whose strobes are 1, in address order
abbrev pub taken_below : (words strobes : List ℕ) → (count : ℕ) → List ℕ
taken_below words strobes zero = []
taken_below words strobes (suc k) =
    taken_below words strobes k ++ cond (named strobes k) (byte_at words k ∷ []) []

-- the bytes whose strobes are 1, four to a packet
abbrev pub packets_of : (n : ℕ) → (words strobes : List ℕ) → List ℕ
packets_of n words strobes = cut (taken_below words strobes (4 * length words)) n

-- refusals 1, 3, 7 and 12 in this order: not a strobe for each word; more packets than a plan may have; less room than packets; not as
-- many strobes as the plan has words, and so not as many words either, or other strobes than the plan's
abbrev pub grounds : (m n : ℕ) → (words strobes : List ℕ) → (room : ℕ) → List (Row ℕ)
grounds m n words strobes room =
    1 ⇐ not (eqb (length words) (length strobes))
    ∷ 3 ⇐ ltb max_packets n
    ∷ 7 ⇐ ltb room n
    ∷ 12 ⇐ not (is_plan m n strobes)
    ∷ []

-- The refusal, if there is one, in document 01's numbers, and the packets.
pub record Answer : Type 0 where
  pub refusal : Option ℕ
  pub packets : List ℕ

-- what `realign_source` answers; refused, nothing is made
abbrev pub source : (address n : ℕ) → (words strobes : List ℕ) → (room : ℕ) → Answer
source address n words strobes room =
    let refusal : Option ℕ = first_applying (grounds (address % 4) n words strobes room) in
    record { refusal = refusal; packets = cond (accepts refusal) (packets_of n words strobes) [] }

-- what a call answers, and what its buffer holds afterwards: the packets from its start, and past them what it had before
pub record Sources (address n : ℕ) (words strobes before left : List ℕ) (answered : Result ℕ Refusal) : Type 0 where
  pub refusal : refusal_of answered ≡ (source address n words strobes (length before)).refusal
  pub count : result_unwrap_or answered 0 ≡ length (source address n words strobes (length before)).packets
  pub written : left ≡ (source address n words strobes (length before)).packets ++ drop (result_unwrap_or answered 0) before
