-- What the two calls promise, in their two cases: accepted, where no ground applies, and refused, by the number that is given.
-- Assumes nothing.
use Rattle.std.proofs.Common.{◌≡◌, ℕ, ◌≤◌, false, ltb, List, [], ◌∷◌, ◌++◌, length, take, drop, Ok, Err, sym, ◌∙◌, ap, le-ltb, ltb-false}
use Rattle.std.proofs.lemmas.List.{length-take-le}
use mathlib.Core.Option.{none, some}
use Rattle.signals.specs.Tables.{Row, ◌⇐◌, first_applying, NoneIn}
use Rattle.signals.specs.Refusals.{number_of}
use Rattle.signals.specs.Sequences.{entries_below}
use Rattle.signals.specs.declared.Refusal.{Refusal}
use Rattle.signals.proofs.Bools.{neither}
use Rattle.signals.proofs.Tables.{none_keeps}
use Rattle.addressgen.specs.declared.Settings.{Settings}
use Rattle.addressgen.specs.Overwriting.{overwrites_itself}
use Rattle.addressgen.specs.Run.{bad_mask}
use Rattle.address_at.specs.declared.legal.Legal.{Legal}
use Rattle.address_at.specs.ByNumber.{address_of}
use Rattle.address_at.specs.AddressAt.{answer_of, answer_by}
use Rattle.address_at.specs.AddressAt as ofAddress
use Rattle.address_at.specs.Overlap.{max_iterations, met_below, Lists}
use Rattle.address_at.specs.Overlap as ofOverlap

module _ (s : Settings) (i : ℕ) where
  pub no_bad_mask : first_applying (ofAddress.grounds s i) ≡ none → bad_mask s ≡ false
  no_bad_mask e = (none_keeps (ofAddress.grounds s i) e).0

  pub addressed :
      first_applying (ofAddress.grounds s i) ≡ none → (address : ℕ) → address ≡ address_of s i →
      answer_of (Ok address) ≡ answer_by address_of s i
  addressed e address f = rw (e, f)

  pub not_addressed :
      (why : Refusal) → first_applying (ofAddress.grounds s i) ≡ some (number_of why) →
      answer_of (Err why) ≡ answer_by address_of s i
  not_addressed why e = rw e

module _ (first second : Settings) (room : ℕ) (e : first_applying (ofOverlap.grounds first second room) ≡ none) where
  passed : NoneIn (ofOverlap.grounds first second room)
  passed = none_keeps (ofOverlap.grounds first second room) e

  pub second_fits : second.total ≤ max_iterations
  second_fits = ltb-false max_iterations second.total (neither (ltb max_iterations first.total) (ltb max_iterations second.total) passed.0).1

  pub first_mask : bad_mask first ≡ false
  first_mask = passed.1.0

  pub second_mask : bad_mask second ≡ false
  second_mask = passed.1.1.1.0

  -- there is room for all of the first's iterations, and not only for those that are listed
  pub has_room : first.total ≤ room
  has_room = ltb-false room first.total passed.1.1.1.1.1.0

-- settings that are legal give neither 10 nor 11
pub passes :
    (legal : Legal) (s : Settings) (more : List (Row ℕ)) → legal.settings ≡ s →
    first_applying (10 ⇐ bad_mask s ∷ 11 ⇐ overwrites_itself s ∷ more) ≡ first_applying more
passes legal s more e = rw (← e) (simp (legal.mask, legal.strides))

-- the grounds that are left where both have few enough iterations, and one or both are legal
module _ (first second : Settings) (room : ℕ) (few : first.total ≤ max_iterations) (few_too : second.total ≤ max_iterations) where
  abbrev pub behind_second : List (Row ℕ)
  behind_second = 7 ⇐ ltb room first.total ∷ []

  abbrev pub behind_first : List (Row ℕ)
  behind_first = 10 ⇐ bad_mask second ∷ 11 ⇐ overwrites_itself second ∷ behind_second

  pub both_few :
      first_applying (ofOverlap.grounds first second room) ≡ first_applying (10 ⇐ bad_mask first ∷ 11 ⇐ overwrites_itself first ∷ behind_first)
  both_few = simp (le-ltb max_iterations first.total few, le-ltb max_iterations second.total few_too)

  pub first_legal :
      (legal : Legal) → legal.settings ≡ first →
      first_applying (ofOverlap.grounds first second room) ≡ first_applying behind_first
  first_legal legal e = both_few ∙ passes legal first behind_first e

  pub all_pass :
      (legal other : Legal) → legal.settings ≡ first → other.settings ≡ second → first.total ≤ room →
      first_applying (ofOverlap.grounds first second room) ≡ none
  all_pass legal other e f fits = first_legal legal e ∙ passes other second behind_second f ∙ simp (le-ltb room first.total fits)

-- as many addresses as a part of an array has room for
pub its_addresses :
    (entry : ℕ → ℕ) (n : ℕ) (room written : List ℕ) → written ≡ entries_below entry (length (take n room)) →
    n ≤ length room → written ≡ entries_below entry n
its_addresses entry n room written e h = e ∙ ap (entries_below entry) (length-take-le n room h)

module _ (first second : Settings) (before : List ℕ) where
  pub has_listed :
      first_applying (ofOverlap.grounds first second (length before)) ≡ none →
      (others : List ℕ) → others ≡ entries_below (address_of second) second.total →
      (count : ℕ) → count ≡ length (met_below (address_of first) others first.total) →
      (left : List ℕ) → left ≡ met_below (address_of first) others first.total ++ drop count before →
      Lists address_of first second before left (Ok count)
  has_listed e others f count g left h =
      record {
        refusal = sym e;
        count = rw e (g ∙ ap (λ (all : List ℕ). length (met_below (address_of first) all first.total)) f);
        written = rw e (h ∙ ap (λ (all : List ℕ). met_below (address_of first) all first.total ++ drop count before) f);
      }

  pub not_listed :
      (why : Refusal) → first_applying (ofOverlap.grounds first second (length before)) ≡ some (number_of why) →
      Lists address_of first second before before (Err why)
  not_listed why e = record { refusal = sym e; count = rw e; written = rw e }
