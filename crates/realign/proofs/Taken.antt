-- The bytes that a source takes: where the strobes are a plan's they name the bytes from m to m + 4 * n - 1, so that none are taken
-- before, one at each of these, and none behind; and with them its packets. Assumes nothing.
use Prim.Native.Nat.{ℕ, zero, suc, ◌+◌, ◌*◌, ◌-◌, ◌/◌, ◌%◌, ◌<◌, ◌≤◌}
use native.Mathlib.Omega.{arith}
use native.Mathlib.Nat.{suc-add}
use mathlib.Core.Bool.{true, false, ◌&&◌}
use mathlib.Core.List.{List, []}
use mathlib.Core.Path.{◌≡◌, refl, ap, ◌∙◌}
use lib.Dec.{ltb, leb}
use lib.ListN.{length, get_or}
use Rattle.std.proofs.lemmas.Grind.{common_steps}
use Rattle.signals.specs.Sequences.{entries_below}
use Rattle.signals.proofs.Entries.{entry_at, same_entries}
use Rattle.strbgen.specs.Plan.{word_count, is_plan}
use Rattle.strbgen.proofs.Bytes.{exact_bytes}
use Rattle.strbgen.proofs.Given.{plan_given}
use Rattle.realign.specs.Bytes.{byte_at}
use Rattle.realign.specs.From.{word_from}
use Rattle.realign.specs.Source.{named, taken_below, packets_of}
use Rattle.realign.proofs.Bytes.{same_bytes}
use Rattle.realign.proofs.Padded.{count_exact}

module _ (m n : ℕ) (strobes : List ℕ) (few : m < 4) (planned : is_plan m n strobes ≡ true) where
  -- byte k is named exactly when it is the packets'
  pub named_exactly : (k : ℕ) → k < 4 * word_count m n → named strobes k ≡ (leb m k && ltb k (m + 4 * n))
  named_exactly k h = grind (arith, common_steps, (plan_given m n strobes planned).1 (k / 4), (exact_bytes m n few).place (k / 4) (k % 4))

  pub named_own : (k : ℕ) → m ≤ k → k < m + 4 * n → k < 4 * word_count m n → named strobes k ≡ true
  named_own k h g less = grind (arith, common_steps, named_exactly k)

  pub named_front : (k : ℕ) → k < m → k < 4 * word_count m n → named strobes k ≡ false
  named_front k h less = grind (arith, common_steps, named_exactly k)

  pub named_behind : (k : ℕ) → m + 4 * n ≤ k → k < 4 * word_count m n → named strobes k ≡ false
  named_behind k h less = grind (arith, common_steps, named_exactly k)

  module _ (words : List ℕ) where
    abbrev taken_at : ℕ → List ℕ
    taken_at = taken_below words strobes

    -- the bytes from m on
    abbrev from_address : ℕ → ℕ
    from_address k = byte_at words (k + m)

    none_before : (k : ℕ) → k ≤ m → k ≤ 4 * word_count m n → taken_at k ≡ []
    none_before zero h less = refl
    none_before (suc k) h less = grind (arith, common_steps, none_before k, named_exactly k)

    each_own : (d : ℕ) → d ≤ 4 * n → d + m ≤ 4 * word_count m n → taken_at (d + m) ≡ entries_below from_address d
    each_own zero h less = grind (arith, common_steps, none_before m)
    each_own (suc d) h less = grind (arith, common_steps, each_own d, suc-add d m, named_exactly (d + m))

    none_behind : (e : ℕ) → e + (4 * n + m) ≤ 4 * word_count m n → taken_at (e + (4 * n + m)) ≡ entries_below from_address (4 * n)
    none_behind zero less = grind (arith, common_steps, each_own (4 * n))
    none_behind (suc e) less = grind (arith, common_steps, none_behind e, suc-add e (4 * n + m), named_exactly (e + (4 * n + m)))

    taken : 0 < n → taken_at (4 * word_count m n) ≡ entries_below from_address (4 * n)
    taken some = ap taken_at size ∙ none_behind ((4 - m) % 4) (omega (arith, size))
      where
        size : 4 * word_count m n ≡ (4 - m) % 4 + (4 * n + m)
        size = omega (arith, count_exact m n few some)

    -- a source's packets
    pub source_packets : length words ≡ word_count m n → entries_below (word_from m words) n ≡ packets_of n words strobes
    source_packets size = same_entries (word_from m words) _ n (λ i h. same_bytes (λ j. byte_at words (4 * i + j + m)) _ (each i h))
      where
        each : (i : ℕ) → i < n → (j : ℕ) → j < 4 → byte_at words (4 * i + j + m) ≡ get_or (taken_at (4 * length words)) (4 * i + j) 0
        each i h j g = grind (arith, common_steps, entry_at from_address (4 * n) (4 * i + j) 0, taken)
