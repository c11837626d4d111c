-- One turn of the loop that lists iterations: the list grows by the number that it came to, if that is listed, and takes the place of what
-- was there. Assumes nothing.
use Rattle.std.proofs.Common.{◌≡◌, ℕ, zero, suc, ◌+◌, ◌<◌, ◌≤◌, Bool, true, false, List, ◌++◌, length, drop, set, sym, arith}
use Rattle.std.proofs.lemmas.Grind.{common_steps}
use Rattle.signals.proofs.Writing.{writes_one}
use Rattle.address_at.specs.Overlap.{numbers_below}

-- no more numbers are listed than there are
pub listed_fit : (has : ℕ → Bool) (n : ℕ) → length (numbers_below has n) ≤ n
listed_fit has zero = omega arith
listed_fit has (suc n) = grind (arith, common_steps, listed_fit has n)

module _
    (has : ℕ → Bool) (i : ℕ) (before out : List ℕ) (count : ℕ) (size : count ≡ length (numbers_below has i))
    (held : out ≡ numbers_below has i ++ drop count before)
  where
    pub lists :
        count < length before → has i ≡ true →
        (count + 1 ≡ length (numbers_below has (i + 1)))
        × (set out count i ≡ numbers_below has (i + 1) ++ drop (count + 1) before)
    lists h e = grind (arith, common_steps, writes_one (numbers_below has i) count before out (sym size) h held i)

    pub passes :
        has i ≡ false →
        (count ≡ length (numbers_below has (i + 1))) × (out ≡ numbers_below has (i + 1) ++ drop count before)
    passes e = grind (arith, common_steps)
