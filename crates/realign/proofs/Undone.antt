-- Source and sink undo each other. Byte by byte: a byte of a word that is made of bytes is that byte again, so that the packets' bytes
-- are found where they were put, and the bytes that were taken stand where they came from. Assumes nothing.
use Prim.Native.Nat.{ℕ, ◌+◌, ◌*◌, ◌-◌, ◌/◌, ◌%◌, ◌^◌, ◌<◌, ◌≤◌}
use native.Mathlib.Omega.{arith}
use native.Mathlib.Nat.{mod-eq_of_lt}
use mathlib.Core.Bool.{true, cond}
use mathlib.Core.List.{List, ◌∷◌}
use mathlib.Core.Logic.{⊎_elim}
use mathlib.Core.Option.{none}
use mathlib.Core.Path.{◌≡◌, refl, sym, ap, ◌∙◌}
use lib.Dec.{ltb}
use lib.ListN.{length, get_or}
use borrow.Author.Tests.{ltb-true, ltb-false}
use Rattle.std.proofs.lemmas.Grind.{common_steps}
use Rattle.signals.specs.Sequences.{entries_below}
use Rattle.signals.specs.Tables.{first_applying}
use Rattle.signals.proofs.Bools.{either}
use Rattle.signals.proofs.Entries.{entry_at, same_entries, entries_read}
use Rattle.signals.proofs.Tables.{keeps_none}
use Rattle.signals.proofs.Writing.{length_entries}
use Rattle.strbgen.specs.Plan.{max_packets, word_count, strobe_at, is_plan}
use Rattle.strbgen.specs.Plan as ofPlan
use Rattle.strbgen.proofs.Given.{plan_is_plan, plan_given}
use Rattle.realign.specs.Bytes.{byte_of, byte_at, word_of, cut}
use Rattle.realign.specs.From.{word_from}
use Rattle.realign.specs.Meaning.{Fit, nulled, StrobesNamePackets, SourceAfterSink, SinkAfterSource}
use Rattle.realign.specs.Sink.{padded, words_of, strobes_of, sink}
use Rattle.realign.specs.Sink as ofSink
use Rattle.realign.specs.Source.{named, packets_of, source}
use Rattle.realign.specs.Source as ofSource
use Rattle.realign.proofs.Answers.{remainder_less, source_few, source_plan, source_count, sink_few}
use Rattle.realign.proofs.Bytes.{same_bytes, word_of_bytes, byte_of_word, byte_small}
use Rattle.realign.proofs.Joining.{byte_at_lem}
use Rattle.realign.proofs.Padded.{count_exact, byte_next, byte_past, null_front, padded_byte}
use Rattle.realign.proofs.Taken.{named_exactly, named_own, named_front, named_behind, source_packets}

-- byte k of words that are made of bytes
byte_made :
    (byte : ℕ → ℕ) → ((k : ℕ) → byte k < 2 ^ 8) → (count k : ℕ) → k < 4 * count →
    byte_at (entries_below (λ i. word_of (λ j. byte (4 * i + j))) count) k ≡ byte k
byte_made byte small count k h =
    grind (
      arith,
      common_steps,
      entry_at (λ i. word_of (λ j. byte (4 * i + j))) count (k / 4) 0,
      byte_of_word (λ j. byte (4 * (k / 4) + j)) (λ j. small (4 * (k / 4) + j)) (k % 4),
    )

-- words are made of their bytes
words_made : (words : List ℕ) (n : ℕ) → Fit words → length words ≡ n → entries_below (word_from 0 words) n ≡ words
words_made words n fit size =
    same_entries (word_from 0 words) (λ i. get_or words i 0) n (λ i h. own i) ∙ entries_read words 0 n size
  where
    same_place : (k : ℕ) → k + 0 ≡ k
    same_place k = omega arith

    own : (i : ℕ) → word_from 0 words i ≡ get_or words i 0
    own i =
        same_bytes (λ j. byte_at words (4 * i + j + 0)) (byte_of (get_or words i 0))
        (λ j h. ap (byte_at words) (same_place (4 * i + j)) ∙ byte_at_lem words i j h)
        ∙ word_of_bytes (get_or words i 0)
        ∙ mod-eq_of_lt (fit i)

module _ (m : ℕ) (packets : List ℕ) (few : m < 4) where
  abbrev padded_at : ℕ → ℕ
  padded_at k = get_or (padded m packets) k 0

  padded_small : (k : ℕ) → padded_at k < 2 ^ 8
  padded_small k = rw (sym (padded_byte m packets few k)) (byte_small _ _)

  -- behind the padding stand the packets' bytes
  padded_own : (k : ℕ) → padded_at (k + m) ≡ byte_at packets k
  padded_own k = sym (padded_byte m packets few (k + m)) ∙ ap (byte_at (0 ∷ packets)) index ∙ byte_next 0 packets k
    where
      index : k + m + (4 - m) ≡ 4 + k
      index = omega arith

  -- what source takes from a sink's words
  packets_again : Fit packets → packets_of (length packets) (words_of m packets) (strobes_of m packets) ≡ packets
  packets_again fit =
      sym (source_packets m n (strobes_of m packets) few (plan_is_plan m n) (words_of m packets) (length_entries _ (word_count m n)))
      ∙ same_entries (word_from m (words_of m packets)) (word_from 0 packets) n
      (λ i h. same_bytes (λ j. byte_at (words_of m packets) (4 * i + j + m)) (λ j. byte_at packets (4 * i + j + 0)) (each i h))
      ∙ words_made packets n fit refl
    where
      n : ℕ
      n = length packets

      each : (i : ℕ) → i < n → (j : ℕ) → j < 4 → byte_at (words_of m packets) (4 * i + j + m) ≡ byte_at packets (4 * i + j + 0)
      each i h j g =
          byte_made padded_at padded_small (word_count m n) (4 * i + j + m) (omega (arith, count_exact m n few (omega arith)))
          ∙ padded_own (4 * i + j)
          ∙ ap (byte_at packets) place
        where
          place : 4 * i + j ≡ 4 * i + j + 0
          place = omega arith

module _ (m n : ℕ) (words strobes : List ℕ) (few : m < 4) (planned : is_plan m n strobes ≡ true) (size : length words ≡ word_count m n) where
  abbrev packets : List ℕ
  packets = packets_of n words strobes

  as_many : length packets ≡ n
  as_many = length_entries _ n

  -- the bytes that were taken
  taken_byte : (k : ℕ) → k < 4 * n → byte_at packets k ≡ byte_at words (k + m)
  taken_byte k h =
      ap (λ l. byte_at l k) (sym (source_packets m n strobes few planned words size))
      ∙ byte_made (λ b. byte_at words (b + m)) (λ b. byte_small _ _) n k h

  -- a byte of what a sink makes of them: the word's own, or null
  byte_again : (k : ℕ) → k < 4 * word_count m n → get_or (padded m packets) k 0 ≡ cond (named strobes k) (byte_at words k) 0
  byte_again k less = ⊎_elim (λ t. front (ltb-true k m t)) (λ f. from (ltb-false k m f)) (either (ltb k m))
    where
      front : k < m → get_or (padded m packets) k 0 ≡ cond (named strobes k) (byte_at words k) 0
      front h = grind (arith, common_steps, null_front m packets k, named_front m n strobes few planned k)

      own : m ≤ k → k < m + 4 * n → get_or (padded m packets) k 0 ≡ cond (named strobes k) (byte_at words k) 0
      own h g = grind (arith, common_steps, padded_own m packets few (k - m), taken_byte (k - m), named_own m n strobes few planned k)

      behind : m ≤ k → m + 4 * n ≤ k → get_or (padded m packets) k 0 ≡ cond (named strobes k) (byte_at words k) 0
      behind h g =
          grind (
            arith,
            common_steps,
            padded_own m packets few (k - m),
            byte_past packets (k - m),
            as_many,
            named_behind m n strobes few planned k,
          )

      from : m ≤ k → get_or (padded m packets) k 0 ≡ cond (named strobes k) (byte_at words k) 0
      from h =
          ⊎_elim (λ t. own h (ltb-true k (m + 4 * n) t)) (λ f. behind h (ltb-false k (m + 4 * n) f)) (either (ltb k (m + 4 * n)))

  words_again : words_of m packets ≡ nulled words strobes
  words_again =
      ap (λ count. cut (padded m packets) (word_count m count)) as_many
      ∙ same_entries _ (λ i. word_of (λ j. cond (named strobes (4 * i + j)) (byte_at words (4 * i + j)) 0)) (word_count m n)
      (λ i h. same_bytes (λ j. get_or (padded m packets) (4 * i + j) 0) (λ j. cond (named strobes (4 * i + j)) (byte_at words (4 * i + j)) 0)
      (λ j g. byte_again (4 * i + j) (omega arith)))
      ∙ ap (entries_below (λ i. word_of (λ j. cond (named strobes (4 * i + j)) (byte_at words (4 * i + j)) 0))) (sym size)

  strobes_again : strobes_of m packets ≡ strobes
  strobes_again =
      ap (λ count. ofPlan.strobes m (word_count m count)) as_many
      ∙ same_entries (strobe_at m (word_count m n)) (λ i. get_or strobes i 0) (word_count m n) (λ i h. sym ((plan_given m n strobes planned).1 i h))
      ∙ entries_read strobes 0 (word_count m n) (plan_given m n strobes planned).0

-- a source or a sink that no ground stops
source_accepts :
    (m n : ℕ) (words strobes : List ℕ) (room : ℕ) → length words ≡ length strobes → n ≤ max_packets → n ≤ room → is_plan m n strobes ≡ true →
    first_applying (ofSource.grounds m n words strobes room) ≡ none
source_accepts m n words strobes room size limit fits planned =
    keeps_none (ofSource.grounds m n words strobes room)
    (grind (arith, common_steps))

sink_accepts :
    (m : ℕ) (packets : List ℕ) (wordRoom strobeRoom : ℕ) → length packets ≤ max_packets →
    word_count m (length packets) ≤ wordRoom → word_count m (length packets) ≤ strobeRoom →
    first_applying (ofSink.grounds m packets wordRoom strobeRoom) ≡ none
sink_accepts m packets wordRoom strobeRoom limit words-fit strobes_fit =
    keeps_none (ofSink.grounds m packets wordRoom strobeRoom) (grind (arith, common_steps))

-- an answer's refusal is the first ground that applies, so that one without a refusal comes of no ground
source_refusal :
    (address n : ℕ) (words strobes : List ℕ) (room : ℕ) →
    (source address n words strobes room).refusal ≡ first_applying (ofSource.grounds (address % 4) n words strobes room)
source_refusal _ _ _ _ _ = refl

sink_refusal :
    (address : ℕ) (packets : List ℕ) (wordRoom strobeRoom : ℕ) →
    (sink address packets wordRoom strobeRoom).refusal ≡ first_applying (ofSink.grounds (address % 4) packets wordRoom strobeRoom)
sink_refusal _ _ _ _ = refl

pub strobes_name_packets_lem : StrobesNamePackets
strobes_name_packets_lem m packets k few h =
    named_exactly m (length packets) (strobes_of m packets) few (plan_is_plan m (length packets)) k h

pub source_after_sink_lem : SourceAfterSink
source_after_sink_lem address packets wordRoom strobeRoom room fit made fits =
    rw (made, taken, packets_again m packets (remainder_less address) fit)
  where
    m : ℕ
    m = address % 4

    n : ℕ
    n = length packets

    taken : first_applying (ofSource.grounds m n (words_of m packets) (strobes_of m packets) room) ≡ none
    taken =
        source_accepts m n (words_of m packets) (strobes_of m packets) room
        (length_entries _ (word_count m n) ∙ sym (length_entries (strobe_at m (word_count m n)) (word_count m n)))
        (sink_few m packets wordRoom strobeRoom made) fits (plan_is_plan m n)

pub sink_after_source_lem : SinkAfterSource
sink_after_source_lem address n words strobes room wordRoom strobeRoom taken words-fit strobes_fit =
    rw (
      taken,
      made,
      words_again m n words strobes (remainder_less address) planned size,
      strobes_again m n words strobes (remainder_less address) planned size,
    )
  where
    m : ℕ
    m = address % 4

    planned : is_plan m n strobes ≡ true
    planned = source_plan m n words strobes room taken

    size : length words ≡ word_count m n
    size = source_count m n words strobes room taken

    count : word_count m (length (packets_of n words strobes)) ≡ length words
    count = ap (word_count m) (length_entries _ n) ∙ sym size

    made : first_applying (ofSink.grounds m (packets_of n words strobes) wordRoom strobeRoom) ≡ none
    made =
        sink_accepts m (packets_of n words strobes) wordRoom strobeRoom
        (rw (as_many m n words strobes (remainder_less address) planned size) (source_few m n words strobes room taken))
        (rw count words-fit) (rw count strobes_fit)
