-- What `fill` writes: a full strobe for each word, then the last word's and the first's over them, are the plan's strobes. Assumes nothing.
use Prim.Native.Nat.{ℕ, ◌-◌, ◌<◌}
use native.Mathlib.Omega.{arith}
use mathlib.Core.List.{List}
use mathlib.Core.Path.{◌≡◌, sym, ◌∙◌}
use lib.ListN.{length, get_or, set, replicate, length-replicate, length-set}
use Rattle.std.proofs.lemmas.Grind.{common_steps}
use Rattle.signals.proofs.Entries.{same_entries, entries_read}
use Rattle.strbgen.specs.Plan.{first_strobe, last_strobe, strobe_at, strobes}

module _ (m words : ℕ) (some : 0 < words) where
  abbrev full : List ℕ
  full = replicate words 15

  abbrev ended : List ℕ
  ended = set full (words - 1) (last_strobe m)

  abbrev made : List ℕ
  made = set ended 0 (first_strobe m)

  ended_length : length ended ≡ words
  ended_length = simp (length-set, length-replicate)

  made_length : length made ≡ words
  made_length = simp (length-set, length-replicate)

  each : (i : ℕ) → i < words → strobe_at m words i ≡ get_or made i 0
  each i h = grind (arith, common_steps)

  pub filled : made ≡ strobes m words
  filled = sym (same_entries (strobe_at m words) (λ i. get_or made i 0) words each ∙ entries_read made 0 words made_length)
