-- Request T-01: how many lanes a wide stream has, and what stands for each of them. Assumes nothing.
use Rattle.std.specs.Prelude.{ℕ, Bool, true, false, cond, ◌||◌, List, eqb, ltb, ◌≡◌, Result, MatchResult}
use Rattle.signals.specs.Sequences.{entries_below}
use Rattle.signals.specs.declared.Refusal.{Refusal}
use Rattle.signals.specs.declared.Refusal.TheVariants.{BadCount}
use Rattle.lanes.specs.declared.Lanes.{Lanes}
use Rattle.lanes.specs.declared.Lanes.TheVariants.{Two, Four}

-- two or four
abbrev pub legal_lanes : (lanes : ℕ) → Bool
legal_lanes lanes = eqb lanes 2 || eqb lanes 4

abbrev pub count_of : Lanes → ℕ
count_of Two = 2
count_of Four = 4

-- the lanes of that number, if it is legal
abbrev pub Counted : (lanes : ℕ) → Result Lanes Refusal → Type 0
Counted lanes r =
    MatchResult r (λ known. (legal_lanes lanes ≡ true) × (count_of known ≡ lanes)) (λ why. (legal_lanes lanes ≡ false) × (why ≡ BadCount))

abbrev pub max_lanes : ℕ
max_lanes = 4

-- four entries, of which those past the lanes show nothing
abbrev pub per_lane : {A : Type 0} → (lanes : ℕ) → (nothing : A) → (entry : ℕ → A) → List A
per_lane lanes nothing entry = entries_below (λ i. cond (ltb i lanes) (entry i) nothing) max_lanes
