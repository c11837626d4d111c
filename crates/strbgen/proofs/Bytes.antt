-- The strobes of a plan name exactly the packets' bytes. The count: the first word, a full word for each in between, the last
-- word. The place: each of these three kinds of word by the table's rule. Assumes nothing.
use Prim.Native.Nat.{ℕ, zero, suc, ◌+◌, ◌*◌, ◌<◌}
use native.Mathlib.Omega.{arith}
use mathlib.Core.Bool.{true, false, ◌&&◌, or-true}
use mathlib.Core.List.{List, [], ◌∷◌, ◌++◌}
use mathlib.Core.Logic.{⊎_elim}
use mathlib.Core.Path.{◌≡◌, refl, ◌∙◌}
use lib.Dec.{eqb, ltb, leb}
use borrow.Author.Tests.{eqb-true}
use Rattle.std.proofs.lemmas.Grind.{common_steps}
use Rattle.signals.specs.Payloads.{strobed}
use Rattle.signals.specs.Sequences.{entries_below}
use Rattle.signals.proofs.Bools.{either}
use Rattle.strbgen.specs.Plan.{word_count, first_strobe, last_strobe, strobe_at, strobes}
use Rattle.strbgen.specs.Bytes.{bytes_in, bytes_named, ExactBytes}
use Rattle.strbgen.proofs.Given as given
use Rattle.strbgen.proofs.Table.{first_and_last, first_strobed, last_strobed, full_strobed}

-- the bytes of a plan that has one more word
one_more : (before : List ℕ) (strobe : ℕ) → bytes_named (before ++ (strobe ∷ [])) ≡ bytes_named before + bytes_in strobe
one_more [] strobe = omega arith
one_more (s ∷ more) strobe = omega (arith, one_more more strobe)

module _ (m words : ℕ) where
  -- the strobes of the words 0 to i - 1
  abbrev below : ℕ → List ℕ
  below i = entries_below (strobe_at m words) i

  -- a word that is neither first nor last is full
  between : (k : ℕ) → suc (suc k) < words → strobe_at m words (suc k) ≡ 15
  between k h = given.between m words (suc k) (omega arith) (omega arith)

  last_word : (k : ℕ) → suc (suc k) ≡ words → strobe_at m words (suc k) ≡ last_strobe m
  last_word k e = given.last_word m words (suc k) (omega arith) (omega arith)

  -- up to the last word: the first word, and k full ones
  before_last : (k : ℕ) → suc k < words → bytes_named (below (suc k)) ≡ bytes_in (first_strobe m) + 4 * k
  unfolding bytes_in
  before_last zero h = omega arith
  before_last (suc k) h =
      grind (arith, common_steps, one_more (below (suc k)) (strobe_at m words (suc k)), between k, before_last k (omega arith))

  -- a plan of at least two words
  whole : (k : ℕ) → suc (suc k) ≡ words → bytes_named (below (suc (suc k))) ≡ bytes_in (first_strobe m) + bytes_in (last_strobe m) + 4 * k
  whole k e = grind (arith, common_steps, one_more (below (suc k)) (strobe_at m words (suc k)), last_word k e, before_last k)

-- aligned packets take a word each, others one word more
aligned : (m n : ℕ) → eqb m 0 ≡ true → word_count m n ≡ n
aligned m n e = grind (arith, common_steps)

unaligned : (m k : ℕ) → eqb m 0 ≡ false → word_count m (suc k) ≡ suc (suc k)
unaligned m k e = grind (arith, common_steps)

count_aligned : (m n : ℕ) → m < 4 → eqb m 0 ≡ true → bytes_named (strobes m n) ≡ 4 * n
unfolding bytes_in
count_aligned m zero h e = refl
count_aligned m (suc zero) h e = rw (eqb-true m 0 e)
count_aligned m (suc (suc k)) h e = whole m (suc (suc k)) k refl ∙ simp (first_and_last m h, e) (omega arith)

count_unaligned : (m k : ℕ) → m < 4 → eqb m 0 ≡ false → bytes_named (strobes m (suc (suc k))) ≡ 4 * suc k
count_unaligned m k h e = whole m (suc (suc k)) k refl ∙ simp (first_and_last m h, e) (omega arith)

count_named : (m n : ℕ) → m < 4 → bytes_named (strobes m (word_count m n)) ≡ 4 * n
count_named m zero h = simp or-true
count_named m (suc k) h =
    ⊎_elim (λ e. rw (aligned m (suc k) e) (count_aligned m (suc k) h e))
    (λ e. rw (unaligned m k e) (count_unaligned m k h e))
    (either (eqb m 0))

module _ (m j : ℕ) (m-less : m < 4) (j-less : j < 4) where
  place_named :
      (n i : ℕ) → i < word_count m n →
      strobed (strobe_at m (word_count m n) i) j ≡ (leb m (4 * i + j) && ltb (4 * i + j) (m + 4 * n))
  place_named n i h = grind (arith, common_steps, first_strobed m j, last_strobed m j, full_strobed j)

-- the strobes of a plan name the packets' bytes, and no other
pub exact_bytes : (m n : ℕ) → m < 4 → ExactBytes m n
exact_bytes m n h = record { count = count_named m n h; place = λ i j w g. place_named m j h g n i w }
