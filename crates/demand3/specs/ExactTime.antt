-- Request T-12: the exact delivery time. One claim about every line whose FIFOs have capacity at least 2, and what follows from it. They
-- are proved in `proofs/ExactTime.antt`. Assumes nothing.
use Rattle.std.specs.Prelude.{ℕ, ◌+◌, ◌-◌, ◌≤◌, ◌<◌, true, false, List, [], ◌∷◌, ◌++◌, ◌↔◌, ◌≡◌, length, take, Ok}
use Rattle.std.proofs.Math.Option.{none}
use Rattle.signals.specs.Tables.{first_applying}
use Rattle.fifo.specs.declared.Place.{Place}
use Rattle.fifo.specs.Queue.{Queue}
use Rattle.chain.specs.declared.Chain.{Chain}
use Rattle.chain.specs.Line.{held_in}
use Rattle.chain.specs.Cycles.{Cycle}
use Rattle.chain.specs.Calls.{well, new_grounds}
use Rattle.chain.specs.Timing.{delivery_time}
use Rattle.chain.specs.Promises.{value, Times}
use Rattle.demand3.specs.Demand3.{Ledger, opened, entered_all, CapacityAtLeast2}

-- in every cycle the sink is ready, and there is no clear; whatever is offered
abbrev pub Drains : List Cycle → Type 0
Drains [] = Unit {0}
Drains (c ∷ cs) = ((c.sink ≡ true) × (c.clear ≡ false)) × Drains cs

-- Cycle n of cs, 0 being the first, delivers payload i of those that the ledger's line held: before it the i payloads ahead had been
-- delivered and no other, and after it these and payload i.
pub record Delivers (l : Ledger) (cs : List Cycle) (n i : ℕ) : Type 0 where
  pub before : (entered_all l (take n cs)).delivered ≡ l.delivered ++ take i (held_in l.line)
  pub after : (entered_all l (take (n + 1) cs)).delivered ≡ l.delivered ++ take (i + 1) (held_in l.line)

-- Payload i is delivered in the cycle of this number, and in no other, of every list of further cycles that goes so far.
abbrev pub DeliveredAt : Ledger → (i time : ℕ) → Type 0
DeliveredAt l i time = (cs : List Cycle) → Drains cs → time + 1 ≤ length cs → (n : ℕ) → Delivers l cs n i ↔ (n ≡ time)

-- The claim: for every line whose FIFOs have capacity at least 2, and whatever its ledger says was delivered before.
abbrev pub Claim : Type 0
Claim =
    (l : Ledger) → CapacityAtLeast2 l.line → (i : ℕ) → i < length (held_in l.line) →
    DeliveredAt l i (delivery_time l.line i)

-- So for every state of a line that is reached from empty, places of either kind in any mix.
abbrev pub FromEmpty : Type 0
FromEmpty =
    (places : List Place) → first_applying (new_grounds places) ≡ none → (past : List Cycle) →
    let l = entered_all (opened places) past in
    (i : ℕ) → i < length (held_in l.line) → DeliveredAt l i (delivery_time l.line i)

-- Later arrivals do not alter it: whatever two such lists offer, they deliver payload i in the same cycle.
abbrev pub ArrivalsAlterNothing : Type 0
ArrivalsAlterNothing =
    (l : Ledger) → CapacityAtLeast2 l.line → (i : ℕ) → i < length (held_in l.line) →
    (cs ds : List Cycle) → Drains cs → Drains ds → delivery_time l.line i + 1 ≤ length cs → delivery_time l.line i + 1 ≤ length ds →
    (n : ℕ) → Delivers l cs n i ↔ Delivers l ds n i

-- What `Chain::delivery_time` answers, where it does not refuse, is that cycle: a chain that has its form has FIFOs of capacity at least 2.
abbrev pub AnswerIsTime : Type 0
AnswerIsTime =
    (given : Chain) (i cycles : ℕ) → Times given i (Ok cycles) → (l : Ledger) → value given ≡ well l.line → DeliveredAt l i cycles

-- Beside demand 3's bound: at most the payloads ahead of it and the FIFOs but one. A payload that was accepted with n held has at most n
-- ahead of it, and its cycle, counted from 1, is at most n + k.
abbrev pub WithinBound : Type 0
WithinBound = (qs : List Queue) (i : ℕ) → i < length (held_in qs) → delivery_time qs i ≤ i + (length qs - 1)
