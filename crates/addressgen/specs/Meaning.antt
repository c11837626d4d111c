-- What refusal 11 means, by the stepping definition from the start state: a dimension advances when the request says so, a store is
-- refused when it advances in place, and each refused store would yield an address twice. Assumes nothing.
use Rattle.std.specs.Prelude.{◌≡◌, ℕ, ◌+◌, ◌^◌, ◌<◌, true, false, ◌↔◌, [], ◌∷◌, nat_lt}
use Rattle.std.proofs.Math.Option.{some}
use Rattle.signals.specs.Tables.{◌⇐◌, first_applying}
use Rattle.addressgen.specs.declared.Settings.{Settings}
use Rattle.addressgen.specs.declared.State.{State}
use Rattle.addressgen.specs.Stepping.{start, address, Dimension, along, after}
use Rattle.addressgen.specs.Overwriting.{stride, advances, overwrites_itself}
use Rattle.addressgen.specs.Run.{bad_mask, answer_to, ran_of}

-- lengths of 32 bits, as every argument has, and no refusal 10
pub record Legal (s : Settings) : Type 0 where
  pub d0_fits : s.d0 < 2 ^ 32
  pub d1_fits : s.d1 < 2 ^ 32
  pub mask : bad_mask s ≡ false

-- the dimension along which iteration i advances, and the address that it yields
abbrev pub along_at : Settings → ℕ → Dimension
along_at s i = along s (after s start i)

abbrev pub address_at : Settings → ℕ → ℕ
address_at s i = address s (after s start i)

-- some iteration before the last one advances along a dimension
pub record Advances (s : Settings) (d : Dimension) : Type 0 where
  pub iteration : ℕ
  pub before_last : iteration + 1 < s.total
  pub goes_along : along_at s iteration ≡ d

-- some iteration before the last one advances along a dimension whose stride is 0
pub record AdvancesInPlace (s : Settings) : Type 0 where
  pub dimension : Dimension
  pub iteration : Advances s dimension
  pub in_place : stride s dimension ≡ 0

-- two iterations yield the same address
pub record YieldsTwice (s : Settings) : Type 0 where
  pub first : ℕ
  pub second : ℕ
  pub later : first < second
  pub made : second < s.total
  pub same : address_at s first ≡ address_at s second

-- each of the request's clauses says exactly when its dimension advances
abbrev pub AdvancesExactly : Type 0
AdvancesExactly = (s : Settings) (d : Dimension) → Legal s → (advances s d ≡ true) ↔ Advances s d

-- a store overwrites itself exactly when some iteration before the last one advances along a dimension whose stride is 0
abbrev pub OverwritesExactly : Type 0
OverwritesExactly = (s : Settings) → Legal s → (overwrites_itself s ≡ true) ↔ ((s.store ≡ true) × AdvancesInPlace s)

-- each store that is refused with 11 yields the same address in two iterations
abbrev pub RefusedYieldsTwice : Type 0
RefusedYieldsTwice =
    (s : Settings) (t : State) (n room : ℕ) → s.d0 < 2 ^ 32 → s.d1 < 2 ^ 32 →
    (ran_of s t n room).refusal ≡ some 11 → YieldsTwice s

-- a load is answered as if there were no refusal 11
abbrev pub LoadsMayRepeat : Type 0
LoadsMayRepeat =
    (s : Settings) (t : State) (n room : ℕ) → s.store ≡ false →
    ran_of s t n room ≡
    answer_to s t n (first_applying (10 ⇐ bad_mask s ∷ 6 ⇐ nat_lt s.total t.ov ∷ 7 ⇐ nat_lt room n ∷ []))
