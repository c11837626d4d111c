-- What the engine by number means: it is the stepping definition from the start state, for every mask, and so are both calls' answers.
-- Assumes nothing.
use Rattle.std.specs.Prelude.{ℕ, ◌^◌, ◌<◌, List, ◌≡◌, Result}
use Rattle.std.proofs.Math.Option.{none}
use Rattle.signals.specs.Sequences.{entries_below}
use Rattle.signals.specs.declared.Refusal.{Refusal}
use Rattle.addressgen.specs.declared.Settings.{Settings}
use Rattle.addressgen.specs.Stepping.{start, addresses}
use Rattle.addressgen.specs.Run.{ran_of}
use Rattle.addressgen.specs.Meaning.{Legal, address_at}
use Rattle.address_at.specs.ByNumber.{address_of}
use Rattle.address_at.specs.AddressAt.{answer_by}
use Rattle.address_at.specs.Overlap.{Lists}

-- lengths of 32 bits, as every argument has
pub record Fits (s : Settings) : Type 0 where
  pub d0 : s.d0 < 2 ^ 32
  pub d1 : s.d1 < 2 ^ 32

-- with legal settings the address by number is that of the iteration that is stepped to, whatever the strides, the base and the number
abbrev pub NumberedIsStepped : Type 0
NumberedIsStepped = (s : Settings) → Legal s → (i : ℕ) → address_of s i ≡ address_at s i

-- a run from the start state writes the addresses by their numbers
abbrev pub RunsAsNumbered : Type 0
RunsAsNumbered =
    (s : Settings) (n room : ℕ) → Fits s → (ran_of s start n room).refusal ≡ none →
    addresses s start (ran_of s start n room).count ≡ entries_below (address_of s) (ran_of s start n room).count

-- `address_at` answers what stepping there answers
abbrev pub AnswersAsStepped : Type 0
AnswersAsStepped = (s : Settings) (i : ℕ) → Fits s → answer_by address_of s i ≡ answer_by address_at s i

-- `overlap` lists what stepping through both lists
abbrev pub ListsAsStepped : Type 0
ListsAsStepped =
    (first second : Settings) (before left : List ℕ) (r : Result ℕ Refusal) → Fits first → Fits second →
    Lists address_of first second before left r → Lists address_at first second before left r
