-- What the two calls promise, in their two cases: accepted, where no ground applies, and refused, by the number that is given.
-- Assumes nothing.
use Prim.Native.Nat.{ℕ, ◌%◌, ◌<◌, ◌≤◌}
use native.Mathlib.Omega.{arith}
use mathlib.Core.Bool.{true}
use mathlib.Core.List.{List, ◌++◌}
use mathlib.Core.Option.{none, some}
use mathlib.Core.Path.{◌≡◌, sym, ◌∙◌, ap₂}
use lib.Dec.{ltb}
use lib.ListN.{length, take, drop}
use borrow.Author.Tests.{eqb-true, ltb-false, le-ltb, not-false}
use Rattle.std.specs.Prelude.{Result, Ok, Err}
use Rattle.std.specs.Result.{result_unwrap_or}
use Rattle.std.proofs.lemmas.List.{length-take-le}
use Rattle.signals.specs.Tables.{first_applying, NoneIn}
use Rattle.signals.specs.Refusals.{number_of}
use Rattle.signals.specs.Sequences.{entries_below}
use Rattle.signals.specs.declared.Refusal.{Refusal}
use Rattle.signals.proofs.Bools.{neither}
use Rattle.signals.proofs.Tables.{none_keeps}
use Rattle.signals.proofs.Writing.{length_entries}
use Rattle.strbgen.specs.Plan.{max_packets, word_count, is_plan, Planned}
use Rattle.strbgen.specs.Plan as ofPlan
use Rattle.strbgen.proofs.Given.{plan_given}
use Rattle.realign.specs.From.{word_from}
use Rattle.realign.specs.Sink.{words_of, Sinks}
use Rattle.realign.specs.Sink as ofSink
use Rattle.realign.specs.Source.{Sources}
use Rattle.realign.specs.Source as ofSource
use Rattle.realign.proofs.Taken.{source_packets}

pub remainder_less : (address : ℕ) → address % 4 < 4
remainder_less address = omega arith

-- a source that is accepted
module _ (m n : ℕ) (words strobes : List ℕ) (room : ℕ) (e : first_applying (ofSource.grounds m n words strobes room) ≡ none) where
  passed : NoneIn (ofSource.grounds m n words strobes room)
  passed = none_keeps (ofSource.grounds m n words strobes room) e

  pub source_few : n ≤ max_packets
  source_few = ltb-false max_packets n passed.1.0

  pub source_room : n ≤ room
  source_room = ltb-false room n passed.1.1.0

  pub source_plan : is_plan m n strobes ≡ true
  source_plan = not-false _ passed.1.1.1.0

  pub source_count : length words ≡ word_count m n
  source_count = eqb-true (length words) (length strobes) (not-false _ passed.0) ∙ (plan_given m n strobes source_plan).0

module _ (address n : ℕ) (words strobes before : List ℕ) where
  pub sourced :
      first_applying (ofSource.grounds (address % 4) n words strobes (length before)) ≡ none →
      (made : List ℕ) → made ≡ entries_below (word_from (address % 4) words) (length (take n before)) →
      Sources address n words strobes before (made ++ drop n before) (Ok n)
  sourced e made h =
      let size : length (take n before) ≡ n = length-take-le n before (source_room (address % 4) n words strobes (length before) e) in
      let plan = source_plan (address % 4) n words strobes (length before) e in
      let count = source_count (address % 4) n words strobes (length before) e in
      record {
        refusal = rw e;
        count = rw e (sym (length_entries _ n));
        written = rw (e, h, size, source_packets (address % 4) n strobes (remainder_less address) plan words count);
      }

  pub not_sourced :
      (why : Refusal) → first_applying (ofSource.grounds (address % 4) n words strobes (length before)) ≡ some (number_of why) →
      Sources address n words strobes before before (Err why)
  not_sourced why e = record { refusal = rw e; count = rw e; written = rw e }

-- a sink that is accepted
module _ (m : ℕ) (packets : List ℕ) (wordRoom strobeRoom : ℕ) (e : first_applying (ofSink.grounds m packets wordRoom strobeRoom) ≡ none) where
  sink_passed : NoneIn (ofSink.grounds m packets wordRoom strobeRoom)
  sink_passed = none_keeps (ofSink.grounds m packets wordRoom strobeRoom) e

  pub sink_few : length packets ≤ max_packets
  sink_few = ltb-false max_packets (length packets) sink_passed.0

  pub word_room : word_count m (length packets) ≤ wordRoom
  word_room =
      ltb-false wordRoom (word_count m (length packets))
      (neither (ltb wordRoom (word_count m (length packets))) (ltb strobeRoom (word_count m (length packets))) sink_passed.1.0).0

  pub strobe_room : word_count m (length packets) ≤ strobeRoom
  strobe_room =
      ltb-false strobeRoom (word_count m (length packets))
      (neither (ltb wordRoom (word_count m (length packets))) (ltb strobeRoom (word_count m (length packets))) sink_passed.1.0).1

-- the plan that is written for it
plan_words :
    (address n : ℕ) (before left : List ℕ) (plan : Result ℕ Refusal) → Planned address n before left plan →
    n ≤ max_packets → word_count (address % 4) n ≤ length before → result_unwrap_or plan 0 ≡ word_count (address % 4) n
plan_words address n before left plan p few room =
    p.words ∙ simp (le-ltb max_packets n few, le-ltb (length before) (word_count (address % 4) n) room)

module _ (address : ℕ) (packets words strobes : List ℕ) where
  pub sunk :
      first_applying (ofSink.grounds (address % 4) packets (length words) (length strobes)) ≡ none →
      (count : ℕ) → count ≡ word_count (address % 4) (length packets) →
      (wordsLeft : List ℕ) → wordsLeft ≡ words_of (address % 4) packets ++ drop count words →
      (strobesLeft : List ℕ) (plan : Result ℕ Refusal) → Planned address (length packets) strobes strobesLeft plan →
      Sinks address packets words wordsLeft strobes strobesLeft (Ok count)
  sunk e count f wordsLeft g strobesLeft plan p =
      let planned = plan_words address (length packets) strobes strobesLeft plan p (sink_few (address % 4) packets _ _ e) (strobe_room (address % 4) packets _ _ e) in
      record {
        refusal = rw e;
        count = rw e (f ∙ sym (length_entries _ (word_count (address % 4) (length packets))));
        words_written = rw e g;
        strobes_written = rw e (p.written ∙ ap₂ (λ a b. ofPlan.strobes (address % 4) a ++ drop b strobes) planned (planned ∙ sym f));
      }

  pub not_sunk :
      (why : Refusal) → first_applying (ofSink.grounds (address % 4) packets (length words) (length strobes)) ≡ some (number_of why) →
      Sinks address packets words words strobes strobes (Err why)
  not_sunk why e = record { refusal = rw e; count = rw e; words_written = rw e; strobes_written = rw e }
