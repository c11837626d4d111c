-- Laws of the ring, by induction over the number held: a slot further on is another one, so a store at the end joins
-- at the end, and the place past the oldest is the oldest of the rest. Assumes nothing.
use Prim.Native.Nat.{ℕ, zero, suc, ◌+◌, ◌-◌, ◌%◌, ◌≤◌, ◌<◌}
use native.Mathlib.Nat.{add-zero, mod-eq_of_lt}
use native.Mathlib.Omega.{arith}
use mathlib.Core.Bool.{false}
use mathlib.Core.List.{List, [], ◌∷◌, ◌++◌}
use mathlib.Core.Path.{◌≡◌, refl, sym, ap, ◌∙◌}
use borrow.Author.Tests.{le-leb, lt-leb}
use lib.ListN.{length, get_or, set}
use lib.Seq.{get_or-set_same, get_or-set_other}
use Rattle.signals.specs.declared.Payload.{Payload}
use Rattle.signals.specs.Payloads.{zeros, max_strb}
use Rattle.fifo.specs.Queue.{legal_strbs}
use Rattle.fifo.specs.Ring.{wrapped, ring}
use Rattle.fifo.proofs.Places.{wrapped_inside, wrapped_below, next_remainder, wrapped_next, wrapped_other}

pub ring_length : (slots : List Payload) (depth at n : ℕ) → length (ring slots depth at n) ≡ n
unfolding ring
ring_length slots depth at zero = refl
ring_length slots depth at (suc n) = ap suc (ring_length slots depth (wrapped depth (at + 1)) n)

-- where some are held, the oldest is at the place, and the rest go on from the next slot
pub ring_oldest : (slots : List Payload) (depth at n : ℕ) → 0 < n → ring slots depth at n ≡ get_or slots at zeros ∷ ring slots depth (wrapped depth (at + 1)) (n - 1)
unfolding ring
ring_oldest slots depth at zero h = absurd (omega arith)
ring_oldest slots depth at (suc n) h =
    let e : n ≡ suc n - 1 = omega arith in
    ap (λ (k : ℕ). get_or slots at zeros ∷ ring slots depth (wrapped depth (at + 1)) k) e

-- payload i, the oldest being 0, lies i places on
pub ring_at : (slots : List Payload) (depth at n i : ℕ) → at < depth → i < n → get_or (ring slots depth at n) i zeros ≡ get_or slots ((at + i) % depth) zeros
unfolding ring
ring_at slots depth at zero i h k = absurd (omega arith)
ring_at slots depth at (suc n) zero h k = rw (add-zero, mod-eq_of_lt h)
ring_at slots depth at (suc n) (suc i) h k =
    ring_at slots depth (wrapped depth (at + 1)) n i (wrapped_below depth at 1 (omega arith)) (omega arith)
    ∙ ap (λ (slot : ℕ). get_or slots slot zeros) (next_remainder depth at i h)

-- the walk over the held strobes: a legal one leaves the rest to look at, and one that is not settles it
module _ (slots : List Payload) (depth at n : ℕ) (some : 0 < n) where
  pub strobe_legal : (get_or slots at zeros).strb ≤ max_strb → legal_strbs (ring slots depth at n) ≡ legal_strbs (ring slots depth (wrapped depth (at + 1)) (n - 1))
  unfolding legal_strbs
  strobe_legal h = rw (ring_oldest slots depth at n some, le-leb (get_or slots at zeros).strb max_strb h)

  pub strobe_illegal : max_strb < (get_or slots at zeros).strb → legal_strbs (ring slots depth at n) ≡ false
  unfolding legal_strbs
  strobe_illegal h = rw (ring_oldest slots depth at n some, lt-leb (get_or slots at zeros).strb max_strb h)

-- a store at the slot past the end joins at the end
pub store_joins_end : (slots : List Payload) (depth at n : ℕ) (p : Payload) → depth ≤ length slots → at < depth → n < depth
    → ring (set slots (wrapped depth (at + n)) p) depth at (suc n) ≡ ring slots depth at n ++ (p ∷ [])
unfolding ring
store_joins_end slots depth at zero p fits h k =
    rw (wrapped_inside depth at 0 (omega arith), add-zero, get_or-set_same slots at p zeros (omega arith))
store_joins_end slots depth at (suc n) p fits h k =
    let q = store_joins_end slots depth (wrapped depth (at + 1)) n p fits (wrapped_below depth at 1 (omega arith)) (omega arith) in
    rw (get_or-set_other slots (wrapped depth (at + suc n)) at p zeros (wrapped_other depth at n h k))
    (ap {B = List Payload} (λ l. get_or slots at zeros ∷ l)
    (ap (λ (slot : ℕ). ring (set slots slot p) depth (wrapped depth (at + 1)) (suc n)) (sym (wrapped_next depth at n h (omega arith))) ∙ q))
