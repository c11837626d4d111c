-- How long a payload stays: `need qs m` counts the sink-ready cycles until the m payloads nearest the outlet are gone.
-- Idea: a payload takes a cycle after the one before it, or one for each FIFO ahead if that is more. It needs at most as many cycles
-- as there are payloads up to it and FIFOs ahead (`need_bound`). Assumes nothing.
use Prim.Native.Nat.{ℕ, ◌+◌, ◌-◌, ◌≤◌, ◌<◌, max}
use native.Mathlib.Omega.{arith}
use mathlib.Core.Bool.{Bool, true, false, cond}
use mathlib.Core.List.{List, [], ◌∷◌}
use mathlib.Core.Path.{◌≡◌, refl}
use lib.Dec.{leb}
use lib.ListN.{length, length-append}
use borrow.Author.Tests.{leb-true, leb-false, le-leb, lt-leb}
use Rattle.fifo.specs.Queue.{Queue}
use Rattle.chain.specs.Line.{held_in}

-- held in all FIFOs
abbrev pub count : List Queue → ℕ
count qs = length (held_in qs)

-- a payload in the FIFO at the mouth goes after all those ahead of it, and through each FIFO ahead
abbrev pub need : List Queue → ℕ → ℕ
need [] m = 0
need (q ∷ qs) m = cond (leb m (count qs)) (need qs m) ((m - count qs) + max (need qs (count qs)) (length qs))

-- of two numbers the first is at most the second, or above it
pub by_size : {P : Type 0} (a b : ℕ) → (a ≤ b → P) → (b < a → P) → P
by_size {P} a b most above = by_test (leb a b) refl
  where
    by_test : (t : Bool) → leb a b ≡ t → P
    by_test true e = most (leb-true a b e)
    by_test false e = above (leb-false a b e)

-- the two cases of `need`
pub need_ahead : (q : Queue) (qs : List Queue) (m : ℕ) → m ≤ count qs → need (q ∷ qs) m ≡ need qs m
need_ahead q qs m h = rw (le-leb m (count qs) h)

pub need_mouth : (q : Queue) (qs : List Queue) (m : ℕ) → count qs < m →
    need (q ∷ qs) m ≡ (m - count qs) + max (need qs (count qs)) (length qs)
need_mouth q qs m h = rw (lt-leb m (count qs) h)

-- The bound: the payloads up to it, and the FIFOs but one.
pub need_bound : (qs : List Queue) (m : ℕ) → need qs m ≤ m + (length qs - 1)
need_bound [] m = omega arith
need_bound (q ∷ qs) m = by_size m (count qs)
    (λ h. rw (need_ahead q qs m h) (omega (arith, need_bound qs m)))
    (λ h. rw (need_mouth q qs m h) (omega (arith, need_bound qs (count qs))))

pub count_mouth : (q : Queue) (qs : List Queue) → count (q ∷ qs) ≡ count qs + length q.held
count_mouth q qs = length-append (held_in qs) q.held
