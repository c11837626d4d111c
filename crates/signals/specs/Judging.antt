-- How every verdict of the tool follows from its rules: the earliest cycle with a breach, and in it the first rule in order.
-- The rules are a table for each cycle, in the order in which they are tried, each with whether the cycle breaks it. Assumes nothing.
use Rattle.std.specs.Prelude.{ℕ, zero, suc, ◌+◌, ◌<◌, Bool, cond, List, ◌↔◌, ◌≡◌}
use Rattle.std.proofs.Math.Option.{Option, none, some}
use Rattle.signals.specs.Tables.{Row, first_applying, NoneIn, FirstIn}

-- what is found in a trace: no breach, or the rule and the cycle
pub data Finding (R : Type 0) : Type 0 where
  clean : Finding R
  broken : R → ℕ → Finding R

-- how many of the cycles 0 to n - 1 have a property
abbrev pub count_below : (ℕ → Bool) → ℕ → ℕ
count_below has zero = 0
count_below has (suc n) = count_below has n + cond (has n) 1 0

module _ {R : Type 0} where
  -- a finding stays; where there is none yet, cycle c may bring one
  abbrev pub found : Finding R → Option R → ℕ → Finding R
  found clean none c = clean
  found clean (some r) c = broken r c
  found (broken r b) breach c = broken r b

  -- what is found in the cycles 0 to n - 1
  abbrev pub finding_below : (rules : ℕ → List (Row R)) → ℕ → Finding R
  finding_below rules zero = clean
  finding_below rules (suc n) = found (finding_below rules n) (first_applying (rules n)) n

  -- the cycles whose handshakes are counted: those before the broken one, or all n
  abbrev pub cycles_counted : Finding R → ℕ → ℕ
  cycles_counted clean n = n
  cycles_counted (broken r c) n = c

  -- cycle c breaks a rule, r is the first in order that it breaks, and no earlier cycle breaks any
  pub record FirstBreach (rules : ℕ → List (Row R)) (n : ℕ) (r : R) (c : ℕ) : Type 0 where
    pub inside : c < n
    pub rule : FirstIn (rules c) r
    pub earlier : (b : ℕ) → b < c → NoneIn (rules b)

  -- clean exactly when no cycle breaks a rule; otherwise the first cycle that breaks one, with the first rule in order that it breaks
  pub record Judges (rules : ℕ → List (Row R)) (n : ℕ) (finding : Finding R) : Type 0 where
    pub clean_exactly : (finding ≡ clean) ↔ ((c : ℕ) → c < n → NoneIn (rules c))
    pub broken_exactly : (r : R) (c : ℕ) → (finding ≡ broken r c) ↔ FirstBreach rules n r c
