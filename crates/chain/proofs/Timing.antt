-- The delivery time of payload i is what the i + 1 payloads nearest the outlet need, less one.
-- Idea: from a payload to the next the greatest grows by one, or is the way of the next payload if that is more (`time_next`); and
-- `need` goes on in the same way. Assumes nothing.
use Prim.Native.Nat.{ℕ, zero, suc, ◌+◌, ◌-◌, ◌≤◌, ◌<◌, max}
use native.Mathlib.Omega.{arith}
use mathlib.Core.List.{List, [], ◌∷◌}
use mathlib.Core.Path.{◌≡◌, refl, sym, ◌∙◌, ap, ap₂}
use lib.ListN.{length, drop}
use borrow.Author.Tests.{lt-ltb, le-ltb}
use Rattle.fifo.specs.Queue.{Queue}
use Rattle.chain.specs.Timing.{fifo_holding, greatest, delivery_time}
use Rattle.chain.proofs.Need.{count, need, by_size, need_ahead, need_mouth, need_bound, count_mouth}

-- The greatest of the same numbers, and of numbers that are each one more.
greatest_same : (f g : ℕ → ℕ) (i : ℕ) → ((j : ℕ) → j ≤ i → f j ≡ g j) → greatest f i ≡ greatest g i
greatest_same f g zero h = h 0 (omega arith)
greatest_same f g (suc i) h = ap₂ max (greatest_same f g i (λ j k. h j (omega arith))) (h (suc i) (omega arith))

greatest_more : (f : ℕ → ℕ) (i : ℕ) → greatest (λ j. f j + 1) i ≡ greatest f i + 1
greatest_more f zero = refl
greatest_more f (suc i) = omega (arith, greatest_more f i)

-- the way of payload j: the FIFOs ahead of its own
abbrev way : List Queue → (j : ℕ) → ℕ
way qs j = length qs - fifo_holding qs j

way_ahead : (q : Queue) (qs : List Queue) (j : ℕ) → j < count qs → way (q ∷ qs) j ≡ way qs j
way_ahead q qs j h = rw (lt-ltb j (count qs) h) (omega arith)

way_mouth : (q : Queue) (qs : List Queue) (j : ℕ) → count qs ≤ j → way (q ∷ qs) j ≡ length qs
way_mouth q qs j h = rw (le-ltb j (count qs) h) (omega arith)

time_first : (qs : List Queue) → delivery_time qs 0 ≡ way qs 0
unfolding delivery_time
time_first qs = omega arith

time_next : (qs : List Queue) (i : ℕ) → delivery_time qs (suc i) ≡ max (delivery_time qs i + 1) (way qs (suc i))
unfolding delivery_time
time_next qs i =
    ap₂ max
    (greatest_same (λ j. way qs j + (suc i - j)) (λ j. way qs j + (i - j) + 1) i (λ j h. omega arith) ∙ greatest_more (λ j. way qs j + (i - j)) i)
    (omega arith)

-- a payload ahead of the mouth's FIFO does not see that FIFO
time_ahead : (q : Queue) (qs : List Queue) (i : ℕ) → i < count qs → delivery_time (q ∷ qs) i ≡ delivery_time qs i
unfolding delivery_time
time_ahead q qs i h =
    greatest_same (λ j. way (q ∷ qs) j + (i - j)) (λ j. way qs j + (i - j)) i (λ j k. ap (λ x. x + (i - j)) (way_ahead q qs j (omega arith)))

-- one in it goes after all those ahead, or after its way
time_mouth : (q : Queue) (qs : List Queue) → ((i : ℕ) → i < count qs → need qs (suc i) ≡ delivery_time qs i + 1) →
    (i : ℕ) → count qs ≤ i → (suc i - count qs) + max (need qs (count qs)) (length qs) ≡ delivery_time (q ∷ qs) i + 1
time_mouth q qs ahead zero h =
    let e : count qs ≡ 0 = omega arith in
    omega (arith, time_first (q ∷ qs), way_mouth q qs 0 h, ap (need qs) e, need_bound qs 0)
time_mouth q qs ahead (suc i) h = by_size (count qs) i
    (λ k. omega (arith, time_next (q ∷ qs) i, way_mouth q qs (suc i) h, time_mouth q qs ahead i k))
    (λ k.
    let e : count qs ≡ suc i = omega arith in
    omega (arith, time_next (q ∷ qs) i, way_mouth q qs (suc i) h, time_ahead q qs i k, ahead i k, ap (need qs) e))

pub need_time : (qs : List Queue) (i : ℕ) → i < count qs → need qs (suc i) ≡ delivery_time qs i + 1
need_time [] i h = let z : ⊥ = omega arith in absurd z
need_time (q ∷ qs) i h = by_size (suc i) (count qs)
    (λ k. need_ahead q qs (suc i) k ∙ need_time qs i k ∙ ap (λ x. x + 1) (sym (time_ahead q qs i k)))
    (λ k. need_mouth q qs (suc i) k ∙ time_mouth q qs (need_time qs) i (omega arith))

-- Payloads of the FIFOs from place n on do not see those before it.
pub count_dropped : (n : ℕ) (qs : List Queue) → count (drop n qs) ≤ count qs
count_dropped zero qs = omega arith
count_dropped (suc n) [] = omega arith
count_dropped (suc n) (q ∷ qs) = omega (arith, count_dropped n qs, count_mouth q qs)

pub time_dropped : (n : ℕ) (qs : List Queue) (i : ℕ) → i < count (drop n qs) → delivery_time qs i ≡ delivery_time (drop n qs) i
time_dropped zero qs i h = refl
time_dropped (suc n) [] i h = refl
time_dropped (suc n) (q ∷ qs) i h = time_ahead q qs i (omega (arith, count_dropped n qs)) ∙ time_dropped n qs i h
