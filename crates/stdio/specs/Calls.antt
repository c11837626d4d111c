-- What one call of the system moves. No public promise cites it. Assumes nothing.
use Rattle.std.specs.Prelude.{ℕ, ◌≤◌, Option, Some, None, Result, Ok, Err}

-- no more than the bytes that it was given; at the end, or where it failed, it moves none
abbrev pub Moves : {Error : Type 0} → Result (Option ℕ) Error → (bytes : ℕ) → Type 0
Moves (Ok (Some n)) bytes = n ≤ bytes
Moves (Ok None) bytes = Unit {0}
Moves (Err error) bytes = Unit {0}
