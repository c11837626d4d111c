-- Request T-14: what `overlap` answers, and what it leaves in the lent buffer. Assumes nothing.
use Rattle.std.specs.Prelude.{ℕ, zero, suc, Bool, cond, ◌||◌, List, [], ◌∷◌, ◌++◌, ◌≡◌, eqb, ltb, length, drop, Result}
use Rattle.std.specs.Result.{result_unwrap_or}
use Rattle.std.proofs.Math.Option.{Option}
use Rattle.signals.specs.Tables.{Row, ◌⇐◌, first_applying}
use Rattle.signals.specs.Refusals.{refusal_of, accepts, any_of}
use Rattle.signals.specs.Sequences.{entries_below}
use Rattle.signals.specs.declared.Refusal.{Refusal}
use Rattle.addressgen.specs.declared.Settings.{Settings}
use Rattle.addressgen.specs.Overwriting.{overwrites_itself}
use Rattle.addressgen.specs.Run.{bad_mask}

-- the numbers below n that have a property, in rising order
abbrev pub numbers_below : (has : ℕ → Bool) → ℕ → List ℕ
numbers_below has zero = []
numbers_below has (suc n) = numbers_below has n ++ cond (has n) (n ∷ []) []

-- an address is one of those that are yielded
abbrev pub is_among : List ℕ → ℕ → Bool
is_among yielded address = any_of (λ other. eqb other address) yielded

-- the numbers below n whose address is one of them
abbrev pub met_below : (address : ℕ → ℕ) → (yielded : List ℕ) → ℕ → List ℕ
met_below address yielded n = numbers_below (λ i. is_among yielded (address i)) n

-- by an engine, which gives the address by the settings and the number: the iterations of the first whose address the second also yields
abbrev pub shared : (engine : Settings → ℕ → ℕ) → Settings → Settings → List ℕ
shared engine first second = met_below (engine first) (entries_below (engine second) second.total) first.total

-- how many iterations either generator may have
abbrev pub max_iterations : ℕ
max_iterations = 4096

-- refusals in this order; 3: more iterations than that in either; then 10 and 11 of the first, 10 and 11 of the second; 7: less room
-- than the first has iterations
abbrev pub grounds : Settings → Settings → ℕ → List (Row ℕ)
grounds first second room =
    3 ⇐ (ltb max_iterations first.total || ltb max_iterations second.total)
    ∷ 10 ⇐ bad_mask first
    ∷ 11 ⇐ overwrites_itself first
    ∷ 10 ⇐ bad_mask second
    ∷ 11 ⇐ overwrites_itself second
    ∷ 7 ⇐ ltb room first.total
    ∷ []

-- what is listed: nothing when refused
abbrev pub listed : (engine : Settings → ℕ → ℕ) → Settings → Settings → (refusal : Option ℕ) → List ℕ
listed engine first second refusal = cond (accepts refusal) (shared engine first second) []

-- the refusal, if there is one, in document 01's numbers; how many are listed; and what the buffer holds afterwards: those, and past
-- them what it had before
pub record Lists (engine : Settings → ℕ → ℕ) (first second : Settings) (before left : List ℕ) (r : Result ℕ Refusal) : Type 0 where
  pub refusal : refusal_of r ≡ first_applying (grounds first second (length before))
  pub count : result_unwrap_or r 0 ≡ length (listed engine first second (first_applying (grounds first second (length before))))
  pub written :
      left ≡
      listed engine first second (first_applying (grounds first second (length before))) ++ drop (result_unwrap_or r 0) before
