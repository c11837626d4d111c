-- A place in the ring is the remainder's: a sum below twice the depth has passed the end once or not at all, which one comparison
-- tells. Every other law of a place follows from this one, by the laws of remainders. Assumes nothing.
use Prim.Native.Nat.{ℕ, suc, ◌+◌, ◌-◌, ◌*◌, ◌%◌, ◌≤◌, ◌<◌}
use native.Mathlib.Nat.{mod-lt, mod-eq_of_lt, mod-eq-sub-mod, mod-add-mod}
use native.Mathlib.Omega.{arith}
use mathlib.Core.Logic.{◌⊎◌, inl, inr, ⊎_elim}
use mathlib.Core.Path.{◌≡◌, sym, ap, ◌∙◌}
use borrow.Author.Tests.{leb-true, leb-false, ltb-true, ltb-false}
use lib.Dec.{ltb}
use Rattle.signals.proofs.Bools.{either}
use Rattle.fifo.specs.Ring.{is_inside, wrapped, PlaceIsRemainder}

-- the remainder of a number that has passed the depth once
remainder_past : (depth n : ℕ) → depth ≤ n → n < 2 * depth → n % depth ≡ n - depth
remainder_past depth n past once = mod-eq-sub-mod past ∙ mod-eq_of_lt (omega arith)

remainder_cases : (depth n : ℕ) → n < 2 * depth → ((n < depth) × (n % depth ≡ n)) ⊎ ((depth ≤ n) × (n % depth ≡ n - depth))
remainder_cases depth n once =
    ⊎_elim (λ e. let h = ltb-true n depth e in inl (h, mod-eq_of_lt h))
    (λ e. let h = ltb-false n depth e in inr (h, remainder_past depth n h once))
    (either (ltb n depth))

pub place_is_remainder_lem : PlaceIsRemainder
unfolding wrapped
place_is_remainder_lem depth position count once =
    let place = position + count in
    ⊎_elim
    (λ inside. let before : place < depth = omega (arith, leb-true) in rw inside (omega (arith, mod-eq_of_lt before)))
    (λ outside. let past : depth ≤ place = omega (arith, leb-false) in rw outside (omega (arith, remainder_past depth place past (omega arith))))
    (either (is_inside depth place))

-- a place before the end is its own slot
pub wrapped_inside : (depth position count : ℕ) → position + count < depth → wrapped depth (position + count) ≡ position + count
wrapped_inside depth position count h = place_is_remainder_lem depth position count (omega arith) ∙ mod-eq_of_lt h

-- a place has its slot below the depth
pub wrapped_below : (depth position count : ℕ) → position + count < 2 * depth → wrapped depth (position + count) < depth
wrapped_below depth position count h = rw (place_is_remainder_lem depth position count h) (mod-lt (position + count) (omega arith))

-- n on from the next slot is one more than n on from this one
pub next_remainder : (depth at n : ℕ) → at < depth → (wrapped depth (at + 1) + n) % depth ≡ (at + suc n) % depth
next_remainder depth at n h =
    ap (λ (slot : ℕ). (slot + n) % depth) (place_is_remainder_lem depth at 1 (omega arith))
    ∙ mod-add-mod (at + 1) depth n
    ∙ ap (λ (place : ℕ). place % depth) (omega arith)

pub wrapped_next : (depth at n : ℕ) → at < depth → n < depth → wrapped depth (wrapped depth (at + 1) + n) ≡ wrapped depth (at + suc n)
wrapped_next depth at n h k =
    let below = wrapped_below depth at 1 (omega arith) in
    place_is_remainder_lem depth (wrapped depth (at + 1)) n (omega arith)
    ∙ next_remainder depth at n h
    ∙ sym (place_is_remainder_lem depth at (suc n) (omega arith))

-- one on from n on is n + 1 on
pub wrapped_step : (depth at n : ℕ) → at < depth → n < depth → wrapped depth (wrapped depth (at + n) + 1) ≡ wrapped depth (at + (n + 1))
wrapped_step depth at n h k =
    let below = wrapped_below depth at n (omega arith) in
    let same : at + n + 1 ≡ at + (n + 1) = omega arith in
    place_is_remainder_lem depth (wrapped depth (at + n)) 1 (omega arith)
    ∙ ap (λ (slot : ℕ). (slot + 1) % depth) (place_is_remainder_lem depth at n (omega arith))
    ∙ mod-add-mod (at + n) depth 1
    ∙ ap (λ (place : ℕ). place % depth) same
    ∙ sym (place_is_remainder_lem depth at (n + 1) (omega arith))

-- a slot further on, less than a round, is another one
pub wrapped_other : (depth at n : ℕ) → at < depth → suc n < depth → at ≡ wrapped depth (at + suc n) → ⊥
wrapped_other depth at n h k e =
    let same : at ≡ (at + suc n) % depth = e ∙ place_is_remainder_lem depth at (suc n) (omega arith) in
    ⊎_elim (λ w. omega arith) (λ w. omega arith) (remainder_cases depth (at + suc n) (omega arith))
