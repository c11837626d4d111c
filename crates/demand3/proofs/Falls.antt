-- Each sink-ready cycle lowers `need` by one exactly, and no other cycle raises it.
-- Idea: one induction over the FIFOs. A FIFO ahead of which the line is ready moves one on; one that is blocked stands behind enough to
-- stay busy, since a FIFO holds at least two. The payload just accepted is covered by a FIFO put behind the mouth. Assumes nothing.
use Prim.Native.Nat.{ℕ, suc, ◌+◌, ◌-◌, ◌≤◌, ◌<◌, max}
use native.Mathlib.Omega.{arith}
use mathlib.Core.Bool.{Bool, true, false, cond, true≢false}
use mathlib.Core.List.{List, [], ◌∷◌}
use mathlib.Core.Path.{◌≡◌, refl, sym, ◌∙◌, ap, subst, subst₂}
use lib.ListN.{length, length-append}
use borrow.Author.Tests.{ltb-false}
use Rattle.signals.specs.declared.Payload.{Payload}
use Rattle.fifo.specs.Queue.{Queue, when, oldest, capacity, shown, next}
use Rattle.chain.specs.Line.{mouth, cycle}
use Rattle.chain.proofs.Need.{count, need, by_size, need_ahead, need_mouth, count_mouth}
use Rattle.demand3.specs.Demand3.{CapacityAtLeast2}
use Rattle.demand3.proofs.Order.{leaving, entering, cycle_order}

-- a sink-ready cycle counts
abbrev pub ticks : Bool → ℕ
ticks sink = cond sink 1 0

-- none need nothing
pub need_zero : (qs : List Queue) (m : ℕ) → m ≤ 0 → need qs m ≡ 0
need_zero [] m h = refl
need_zero (q ∷ qs) m h = need_ahead q qs m (omega arith) ∙ need_zero qs m h

-- what is held needs a cycle
pub need_none : (qs : List Queue) (m : ℕ) → m ≤ count qs → need qs m ≡ 0 → m ≡ 0
need_none [] m h e = omega arith
need_none (q ∷ qs) m h e = by_size m (count qs)
    (λ i. need_none qs m i (sym (need_ahead q qs m i) ∙ e))
    (λ i. omega (arith, e, need_mouth q qs m i))

-- A cycle in numbers: FIFOs are not lost, nor payloads, and at most one is shown.
pub cycle_length : (qs : List Queue) (offer : List Payload) (sink : Bool) → length (cycle qs offer sink) ≡ length qs
cycle_length [] offer sink = refl
cycle_length (q ∷ qs) offer sink = ap suc (cycle_length qs (shown q) sink)

pub cycle_count : (qs : List Queue) (offer : List Payload) (sink : Bool) →
    length (leaving qs offer sink) + count (cycle qs offer sink) ≡ count qs + length (entering qs offer sink)
cycle_count qs offer sink = simp length-append at (ap length (cycle_order qs offer sink))

shown_one : (q : Queue) → length (shown q) ≤ 1
shown_one q = of_held q.held
  where
    of_held : (held : List Payload) → length (oldest held) ≤ 1
    of_held [] = omega arith
    of_held (p ∷ ps) = omega arith

pub leaving_one : (qs : List Queue) (offer : List Payload) (sink : Bool) → length offer ≤ 1 → length (leaving qs offer sink) ≤ 1
leaving_one qs offer false one = omega arith
leaving_one [] offer true one = one
leaving_one (q ∷ qs) offer true one = leaving_one qs (shown q) true (shown_one q)

-- Capacity 2 enters here: a mouth that is not ready holds two or more, and they need longer than the way alone.
full_needs : (qs : List Queue) → CapacityAtLeast2 qs → mouth qs true ≡ false → length qs < need qs (count qs)
full_needs [] room e = absurd (true≢false e)
full_needs (q ∷ qs) room e =
    let full : capacity q.place ≤ length q.held = ltb-false (length q.held) (capacity q.place) e in
    rw (need_mouth q qs (count (q ∷ qs)) (omega (arith, count_mouth q qs, room.0))) (omega (arith, count_mouth q qs, room.0))

blocked_needs : (qs : List Queue) → CapacityAtLeast2 qs → (sink : Bool) → mouth qs sink ≡ false →
    length qs + ticks sink ≤ max (need qs (count qs)) (length qs)
blocked_needs qs room true e = omega (arith, full_needs qs room e)
blocked_needs qs room false e = omega arith

-- A FIFO and the line ahead of it, in a cycle: it holds none, one moves on, or the line ahead is not ready.
-- held there, moving on, FIFOs ahead, whether the cycle counts, what all ahead need
data Move (held moving ahead tick needed : ℕ) : Type 0 where
  holds_none : held ≡ 0 → moving ≡ 0 → Move held moving ahead tick needed
  moves_one : 1 ≤ held → moving ≡ 1 → Move held moving ahead tick needed
  is_blocked : 1 ≤ held → moving ≡ 0 → ahead + tick ≤ max needed ahead → Move held moving ahead tick needed

move : (qs : List Queue) → CapacityAtLeast2 qs → (q : Queue) (sink : Bool) →
    Move (length q.held) (length (entering qs (shown q) sink)) (length qs) (ticks sink) (need qs (count qs))
move qs room q sink = of_held q.held
  where
    nothing_enters : (t : Bool) → length (when t []) ≡ 0
    nothing_enters true = refl
    nothing_enters false = refl

    of_held : (held : List Payload) → Move (length held) (length (entering qs (oldest held) sink)) (length qs) (ticks sink) (need qs (count qs))
    of_held [] = holds_none refl (nothing_enters (mouth qs sink))
    of_held (p ∷ ps) = by_mouth (mouth qs sink) refl
      where
        by_mouth : (t : Bool) → mouth qs sink ≡ t →
            Move (suc (length ps)) (length (entering qs (p ∷ []) sink)) (length qs) (ticks sink) (need qs (count qs))
        by_mouth true e = moves_one (omega arith) (rw e)
        by_mouth false e = is_blocked (omega arith) (rw e) (blocked_needs qs room sink e)

moving_held : (held moving ahead tick needed : ℕ) → Move held moving ahead tick needed → moving ≤ held
moving_held held moving ahead tick needed (holds_none h i) = omega arith
moving_held held moving ahead tick needed (moves_one h i) = omega arith
moving_held held moving ahead tick needed (is_blocked h i j) = omega arith

-- What a payload behind the FIFOs ahead of q needs, seen with one more FIFO s behind q: where q holds some, and where it holds none.
need_behind_some : (s q : Queue) (qs : List Queue) (m : ℕ) → 1 ≤ length q.held → count qs < m →
    need (s ∷ q ∷ qs) m ≡ (m - count qs) + max (need qs (count qs)) (length qs)
need_behind_some s q qs m some h = by_size m (count (q ∷ qs))
    (λ i. need_ahead s (q ∷ qs) m i ∙ need_mouth q qs m h)
    (λ i. need_mouth s (q ∷ qs) m i
    ∙ omega (arith, count_mouth q qs, need_mouth q qs (count (q ∷ qs)) (omega (arith, count_mouth q qs))))

need_behind_none : (s q : Queue) (qs : List Queue) (m : ℕ) → length q.held ≡ 0 → count qs < m →
    need (s ∷ q ∷ qs) m ≡ (m - count qs) + max (need qs (count qs)) (suc (length qs))
need_behind_none s q qs m none h =
    let e : count (q ∷ qs) ≡ count qs = omega (arith, count_mouth q qs) in
    need_mouth s (q ∷ qs) m (omega arith)
    ∙ omega (arith, need_ahead q qs (count (q ∷ qs)) (omega arith), ap (need qs) e)

-- lower by one exactly where the sink is ready, and else not higher
abbrev pub Falls : (sink : Bool) → (after before : ℕ) → Type 0
Falls true after before = after ≡ before - 1
Falls false after before = after ≤ before

pub falls_ticks : (sink : Bool) (after before : ℕ) → Falls sink after before → after ≤ before - ticks sink
falls_ticks true after before h = omega arith
falls_ticks false after before h = omega arith

-- the fall in numbers, for a payload that is still behind the FIFOs ahead of q after the cycle
falls_behind : (sink : Bool) {held moving ahead needed : ℕ} → Move held moving ahead (ticks sink) needed →
    (m c after before mid : ℕ) → c + moving < m → Falls sink after mid →
    (moving ≡ 0 → mid ≡ needed) → (moving ≡ 1 → mid ≡ 1 + max needed ahead) →
    (held ≡ 0 → before ≡ (m - c) + max needed (suc ahead)) → (1 ≤ held → before ≡ (m - c) + max needed ahead) →
    Falls sink ((m - (c + moving)) + max after ahead) before
falls_behind true (holds_none h b) m c after before mid i j p q x y = omega (arith, p b, x h)
falls_behind true (moves_one h b) m c after before mid i j p q x y = omega (arith, q b, y h)
falls_behind true (is_blocked h b z) m c after before mid i j p q x y = omega (arith, p b, y h)
falls_behind false (holds_none h b) m c after before mid i j p q x y = omega (arith, p b, x h)
falls_behind false (moves_one h b) m c after before mid i j p q x y = omega (arith, q b, y h)
falls_behind false (is_blocked h b z) m c after before mid i j p q x y = omega (arith, p b, y h)

-- where there is no FIFO, the sink takes what is offered
falls_wire : (s : Queue) (offer : List Payload) (sink : Bool) (m : ℕ) → length offer ≤ 1 → m ≤ length (when sink offer) →
    Falls sink 0 (need (s ∷ []) m)
falls_wire s offer true m one h = by_size m 0 (λ i. omega (arith, need_ahead s [] m i)) (λ i. omega (arith, need_mouth s [] m i))
falls_wire s offer false m one h = omega arith

-- The fall: a sink-ready cycle lowers `need` by one exactly, any other does not raise it, also of the payload that just enters.
-- s is whatever stands behind the line, from where that payload comes.
pub need_falls : (qs : List Queue) → CapacityAtLeast2 qs → (s : Queue) (offer : List Payload) (sink : Bool) (m : ℕ) →
    length offer ≤ 1 → m ≤ count qs + length (entering qs offer sink) →
    Falls sink (need (cycle qs offer sink) (m - length (leaving qs offer sink))) (need (s ∷ qs) m)
need_falls [] room s offer sink m one h = falls_wire s offer sink m one (omega arith)
need_falls (q ∷ qs) room s offer sink m one h =
    by_size m (count qs + moving)
    (enters (need_falls qs room.1 q (shown q) sink m (shown_one q)))
    (stays (need_falls qs room.1 q (shown q) sink (count qs + moving) (shown_one q) (omega arith)))
  where
    moving : ℕ
    moving = length (entering qs (shown q) sink)

    gone : ℕ
    gone = length (leaving qs (shown q) sink)

    q' : Queue
    q' = next q offer (mouth qs sink)

    qs' : List Queue
    qs' = cycle qs (shown q) sink

    moved : Move (length q.held) moving (length qs) (ticks sink) (need qs (count qs))
    moved = move qs room.1 q sink

    sum : gone + count qs' ≡ count qs + moving
    sum = cycle_count qs (shown q) sink

    -- it is ahead of q, or enters there
    enters : (m ≤ count qs + moving → Falls sink (need qs' (m - gone)) (need (q ∷ qs) m)) →
        m ≤ count qs + moving → Falls sink (need (q' ∷ qs') (m - gone)) (need (s ∷ q ∷ qs) m)
    enters fall i = subst₂ (Falls sink)
        (sym (need_ahead q' qs' (m - gone) (omega (arith, sum))))
        (sym (need_ahead s (q ∷ qs) m (omega (arith, moving_held _ _ _ _ _ moved, count_mouth q qs))))
        (fall i)

    -- it is in q afterwards
    stays : Falls sink (need qs' (count qs + moving - gone)) (need (q ∷ qs) (count qs + moving)) →
        count qs + moving < m → Falls sink (need (q' ∷ qs') (m - gone)) (need (s ∷ q ∷ qs) m)
    stays fall i = subst (λ x. Falls sink x (need (s ∷ q ∷ qs) m)) (sym after) lower
      where
        place : count qs + moving - gone ≡ count qs'
        place = omega (arith, sum)

        behind : (m - gone) - count qs' ≡ m - (count qs + moving)
        behind = omega (arith, sum)

        after : need (q' ∷ qs') (m - gone) ≡ (m - (count qs + moving)) + max (need qs' (count qs')) (length qs)
        after =
            need_mouth q' qs' (m - gone) (omega (arith, sum))
            ∙ rw (cycle_length qs (shown q) sink) (ap (λ x. x + max (need qs' (count qs')) (length qs)) behind)

        lower : Falls sink ((m - (count qs + moving)) + max (need qs' (count qs')) (length qs)) (need (s ∷ q ∷ qs) m)
        lower =
            falls_behind sink moved m (count qs) (need qs' (count qs')) (need (s ∷ q ∷ qs) m) (need (q ∷ qs) (count qs + moving)) i
            (rw place at fall)
            (λ z. need_ahead q qs (count qs + moving) (omega arith) ∙ ap (need qs) (omega arith))
            (λ z. need_mouth q qs (count qs + moving) (omega arith) ∙ omega arith)
            (λ z. need_behind_none s q qs m z (omega arith))
            (λ z. need_behind_some s q qs m z (omega arith))
