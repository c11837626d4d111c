-- The pass over the FIFOs from the outlet that finds a payload's delivery time: what it knows after some of them, and one turn.
-- Idea: what is behind the FIFOs passed waits `busy` cycles, or one for each of them if that is more, and the next FIFO goes on from
-- there as `need` does. Assumes nothing.
use Prim.Native.Nat.{ℕ, suc, ◌+◌, ◌-◌, ◌*◌, ◌≤◌, ◌<◌, max}
use native.Mathlib.Omega.{arith}
use mathlib.Core.List.{List, [], ◌∷◌, reverse}
use mathlib.Core.Path.{◌≡◌, refl, sym, ◌∙◌, ap}
use native.Mathlib.Nat.{zero-add}
use lib.ListN.{length, get_or, take, drop}
use lib.Seq.{drop-cons, get_or-take}
use Rattle.std.specs.List.{enumerate_from}
use Rattle.std.specs.Ordering.{nat_cmp, ord_max}
use Rattle.std.proofs.lemmas.Bool.Decides.{nat_tests}
use Rattle.std.proofs.lemmas.List.{length-reverse, get_or-reverse}
use Rattle.std.proofs.lemmas.List.FromFn.{length-enumerate_from, get_or-enumerate_from}
use Rattle.fifo.specs.declared.Fifo.{Fifo}
use Rattle.fifo.specs.Queue.{Queue, queue_in, plain, empty, max_depth}
use Rattle.fifo.specs.Promises as fifo
use Rattle.fifo.proofs.Depths.{depth_most, capacity_most}
use Rattle.fifo.proofs.Held.{held_of_value, held_within}
use Rattle.places.specs.Listing.{max_fifos}
use Rattle.chain.specs.declared.Chain.{Chain}
use Rattle.chain.specs.Calls.{queues}
use Rattle.chain.specs.Promises.{value}
use Rattle.chain.specs.Timing.{delivery_time}
use Rattle.chain.proofs.Used.{Formed, used_length, queues_length, queue_at}
use Rattle.chain.proofs.Need.{count, need, by_size, need_ahead, need_mouth, need_bound, count_mouth}
use Rattle.chain.proofs.Timing.{need_time}

-- the greater of two numbers, as the code finds it
pub greater : (a b : ℕ) → ord_max nat_cmp a b ≡ max a b
greater a b = grind (arith, nat_tests)

-- The pass so far: the FIFOs nearest the outlet have been passed, and payload i is not among what they hold.
pub record Passed (qs : List Queue) (i ahead left busy : ℕ) : Type 0 where
  pub fifos : ahead ≡ length qs
  pub payloads : left + count qs ≡ i
  pub cycles : max busy ahead ≡ max (need qs (count qs)) (length qs)
  pub few : count qs ≤ ahead * max_depth

pub passed_none : (i : ℕ) → Passed [] i 0 i 0
passed_none i = record { fifos = refl; payloads = omega arith; cycles = refl; few = omega arith }

-- what is behind those passed goes no later than the bound says
pub soon : (qs : List Queue) (i ahead left busy : ℕ) → Passed qs i ahead left busy → max busy ahead ≤ ahead * max_depth + ahead
soon qs i ahead left busy p = omega (arith, p.fifos, p.cycles, p.few, need_bound qs (count qs))

-- one turn: the next FIFO holds so many
module _ (q : Queue) (qs : List Queue) (i ahead left busy held : ℕ) (p : Passed qs i ahead left busy) (has : held ≡ length q.held) where
  -- payload i is not among them
  pub passes : held ≤ max_depth → held ≤ left → Passed (q ∷ qs) i (ahead + 1) (left - held) (max busy ahead + held)
  passes most later =
      record {
        fifos = omega (arith, p.fifos);
        payloads = omega (arith, p.payloads, count_mouth q qs, has);
        cycles =
            by_size (count (q ∷ qs)) (count qs)
            (λ h.
            let same : count (q ∷ qs) ≡ count qs = omega (arith, count_mouth q qs) in
            omega (arith, need_ahead q qs (count (q ∷ qs)) h, ap (need qs) same, p.fifos, p.cycles, count_mouth q qs, has))
            (λ h. omega (arith, need_mouth q qs (count (q ∷ qs)) h, p.fifos, p.cycles, count_mouth q qs, has));
        few = omega (arith, p.few, count_mouth q qs, has);
      }

  -- payload i is among them
  pub finds_held : left < held → i < count (q ∷ qs)
  finds_held here = omega (arith, p.payloads, count_mouth q qs, has)

  pub finds_time : left < held → max busy ahead + left ≡ delivery_time (q ∷ qs) i
  finds_time here =
      omega (
        arith,
        need_mouth q qs (suc i) (omega (arith, p.payloads)),
        need_time (q ∷ qs) i (finds_held here),
        p.fifos,
        p.payloads,
        p.cycles,
      )

-- what a walk from the outlet on comes to after n FIFOs: the next one, its number and what it holds
pub record Next (row : List Queue) (count n ahead : ℕ) (f : Fifo) : Type 0 where
  pub inside : n < count
  pub number : ahead ≡ n
  pub queue : Queue
  pub stands : drop (count - (n + 1)) row ≡ queue ∷ drop (count - n) row
  pub has : length (queue_in (fifo.trusted f)).held ≡ length queue.held
  pub most : length queue.held ≤ max_depth

pub next_fifo : (chain : Chain) → Formed chain → length chain.fifos ≡ max_fifos → (n ahead : ℕ) (f : Fifo)
    → let all = enumerate_from 0 (reverse (take chain.count chain.fifos)) in (n < length all) × ((ahead, f) ≡ get_or all n (ahead, f))
    → Next (queues (value chain)) chain.count n ahead f
next_fifo chain formed wide n ahead f turn =
    let row = queues (value chain) in
    let used = take chain.count chain.fifos in
    let long : length used ≡ chain.count = used_length chain formed wide in
    let inside : n < length used = omega (arith, turn.0, length-enumerate_from 0 (reverse used), length-reverse used) in
    let pair = turn.1 ∙ get_or-enumerate_from 0 (reverse used) n (ahead, f) (omega (arith, inside, length-reverse used)) in
    let place = chain.count - 1 - n in
    let at_place : f ≡ get_or chain.fifos place f =
    ap (λ (p : ℕ × Fifo). p.1) pair
    ∙ get_or-reverse used n f inside
    ∙ ap (λ (m : ℕ). get_or used (m - 1 - n) f) long
    ∙ get_or-take chain.count chain.fifos place f (omega (arith, inside, long))
    in
    let q = get_or row place (empty (plain 2)) in
    let at = ap fifo.value at_place ∙ queue_at chain formed wide place f (empty (plain 2)) (omega (arith, inside, long)) in
    let h = held_within _ q at in
    let here : place ≡ chain.count - (n + 1) = omega arith in
    let on : suc place ≡ chain.count - n = omega (arith, inside, long) in
    record {
      inside = omega (arith, inside, long);
      number = ap (λ (p : ℕ × Fifo). p.0) pair ∙ zero-add n;
      queue = q;
      stands =
          ap (λ (m : ℕ). drop m row) (sym here)
          ∙ drop-cons row place (empty (plain 2)) (omega (arith, queues_length chain formed wide, inside, long))
          ∙ ap (λ (m : ℕ). q ∷ drop m row) on;
      has = held_of_value _ q at;
      most = omega (arith, h.within, capacity_most q.place, depth_most q.place h.place);
    }
