-- Strobes held against the plan: which strobe a word has that is not the first, and what it is to be the plan's. The count and each
-- strobe are tests of their own, so that a plan's strobes are known one by one. Assumes nothing.
use Prim.Native.Nat.{ℕ, suc, ◌+◌, ◌-◌, ◌<◌}
use native.Mathlib.Omega.{arith}
use mathlib.Core.Bool.{Bool, true, ◌&&◌}
use mathlib.Core.List.{List}
use mathlib.Core.Path.{◌≡◌, refl, sym}
use lib.Dec.{eqb}
use lib.ListN.{length, get_or, take, drop, length-take, length-drop}
use borrow.Author.Tests.{eq-eqb}
use Rattle.std.proofs.lemmas.Grind.{common_steps}
use Rattle.signals.specs.Sequences.{every_below}
use Rattle.signals.proofs.Below.{each_below, every_below_lem}
use Rattle.signals.proofs.Entries.{entry_at}
use Rattle.signals.proofs.Writing.{length_entries}
use Rattle.signals.proofs.Bools.{both, passes_alike}
use Rattle.strbgen.specs.Plan.{word_count, first_strobe, last_strobe, strobe_at, strobes, is_plan}

module _ (m words i : ℕ) (not_first : 0 < i) where
  -- a word that is neither first nor last is full
  pub between : i + 1 < words → strobe_at m words i ≡ 15
  between h = grind (arith, common_steps)

  pub last_word : i + 1 ≡ words → strobe_at m words i ≡ last_strobe m
  last_word e = grind (arith, common_steps)

-- strobe i is that of word i
abbrev pub is_planned : (m words : ℕ) → List ℕ → ℕ → Bool
is_planned m words given i = eqb (get_or given i 0) (strobe_at m words i)

-- the definition's test against a plan of so many words
abbrev is_plan_of : (m words : ℕ) → List ℕ → Bool
is_plan_of m words given = eqb (length given) words && every_below (is_planned m words given) words

module _ (m n words : ℕ) (given : List ℕ) (counted : words ≡ word_count m n) where
  pub each_planned : length given ≡ words → (same : Bool) → same ≡ every_below (is_planned m words given) words → same ≡ is_plan m n given
  each_planned e same all = grind (arith, common_steps)

-- Strobes in three parts, first, last and those between, are held against the plan part by part.
module _ (m words : ℕ) (given : List ℕ) (two : 1 < words) (size : length given ≡ words) where
  -- the strobes between first and last
  abbrev inner : List ℕ
  inner = take (length given - 1 - 1) (drop 1 given)

  abbrev first_planned : Bool
  first_planned = eqb (get_or given 0 0) (first_strobe m)

  abbrev last_planned : Bool
  last_planned = eqb (get_or given (length given - 1) 0) (last_strobe m)

  abbrev ends_planned : Bool
  ends_planned = first_planned && last_planned

  abbrev inner_planned : Bool
  inner_planned = every_below (λ i. eqb (get_or inner i 0) 15) (length inner)

  abbrev parts : Bool
  parts = ends_planned && inner_planned

  inner_length : length inner ≡ words - 2
  inner_length = simp (length-take, length-drop) (omega arith)

  inner_at : (i : ℕ) → suc i < words - 1 → get_or inner i 0 ≡ get_or given (suc i) 0
  inner_at i h = grind (arith, common_steps)

  pub by_parts : parts ≡ every_below (is_planned m words given) words
  by_parts = passes_alike parts (every_below (is_planned m words given) words) each whole
    where
      each : parts ≡ true → every_below (is_planned m words given) words ≡ true
      each e = every_below_lem (is_planned m words given) words planned
        where
          inner_full : (ends_planned ≡ true) × (inner_planned ≡ true)
          inner_full = both ends_planned inner_planned e

          ends : (first_planned ≡ true) × (last_planned ≡ true)
          ends = both first_planned last_planned inner_full.0

          planned : (k : ℕ) → k < words → is_planned m words given k ≡ true
          planned k h =
              grind (
                arith,
                common_steps,
                between m words k,
                last_word m words k,
                each_below (λ i. eqb (get_or inner i 0) 15) (length inner) inner_full.1 (k - 1),
                inner_at (k - 1),
                inner_length,
                ends,
              )

      whole : every_below (is_planned m words given) words ≡ true → parts ≡ true
      whole e = rw (first_is, last_is, inner_is)
        where
          planned : (k : ℕ) → k < words → is_planned m words given k ≡ true
          planned = each_below (is_planned m words given) words e

          first_is : first_planned ≡ true
          first_is = planned 0 (omega arith)

          last_is : last_planned ≡ true
          last_is = grind (arith, common_steps, planned (length given - 1), last_word m words (length given - 1))

          inner_is : inner_planned ≡ true
          inner_is =
              every_below_lem (λ i. eqb (get_or inner i 0) 15) (length inner)
              (λ i h. grind (arith, common_steps, inner_length, inner_at i, planned (suc i), between m words (suc i)))

-- the plan's strobes are the plan's
pub plan_is_plan : (m n : ℕ) → is_plan m n (strobes m (word_count m n)) ≡ true
plan_is_plan m n =
    sym (each_planned m n (word_count m n) (strobes m (word_count m n)) refl (length_entries (strobe_at m (word_count m n)) (word_count m n)) true
    (sym (every_below_lem (is_planned m (word_count m n) (strobes m (word_count m n))) (word_count m n)
    (λ i h. eq-eqb _ _ (entry_at (strobe_at m (word_count m n)) (word_count m n) i 0 h)))))

-- strobes that are the plan's have its count, and each is its word's
pub plan_given : (m n : ℕ) (given : List ℕ) → is_plan m n given ≡ true →
    (length given ≡ word_count m n) × ((i : ℕ) → i < word_count m n → get_or given i 0 ≡ strobe_at m (word_count m n) i)
plan_given m n given e = grind (arith, common_steps, each_below (is_planned m (word_count m n) given) (word_count m n))
