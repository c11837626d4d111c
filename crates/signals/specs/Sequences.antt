-- Sequences by index. Assumes nothing.
use Rattle.std.specs.Prelude.{ℕ, zero, suc, Bool, true, ◌&&◌, List, [], ◌∷◌, ◌++◌}

-- the entries 0 to n - 1
abbrev pub entries_below : {A : Type 0} → (entry : ℕ → A) → ℕ → List A
entries_below entry zero = []
entries_below entry (suc n) = entries_below entry n ++ (entry n ∷ [])

-- each of the numbers 0 to n - 1 has a property
abbrev pub every_below : (has : ℕ → Bool) → ℕ → Bool
every_below has zero = true
every_below has (suc n) = every_below has n && has n
