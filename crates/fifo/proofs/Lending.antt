-- What a user of a FIFO in lent memory knows, who laid there one that has its form: it goes on having it, a step is the rule's, and what
-- is gathered is what lay there. Assumes nothing.
use Prim.Native.Nat.{ℕ, ◌≤◌}
use native.Mathlib.Omega.{arith}
use mathlib.Core.Bool.{Bool, true, false, cond, false≢true}
use mathlib.Core.List.{List}
use mathlib.Core.Path.{◌≡◌, sym, ap, ◌∙◌}
use borrow.Author.Tests.{le-leb}
use lib.ListN.{length}
use Rattle.std.specs.Prelude.{Ok, Err}
use Rattle.signals.specs.declared.Payload.{Payload}
use Rattle.signals.specs.declared.Refusal.{Refusal}
use Rattle.signals.specs.declared.Stepped.{Stepped}
use Rattle.signals.specs.Payloads.{legal_strb}
use Rattle.signals.proofs.Bools.{clash}
use Rattle.fifo.specs.declared.Fifo.{Fifo}
use Rattle.fifo.specs.declared.Pointers.{Pointers}
use Rattle.fifo.specs.Queue.{Queue, ill, well, ready, max_depth}
use Rattle.fifo.specs.Ring.{ready_in, value, trusted, strobes_checked}
use Rattle.fifo.specs.Memory.{fifo_in, has_slots, trusted_in, value_in}
use Rattle.fifo.specs.Promises.{LaysIn, StepsIn, answered_in}
use Rattle.fifo.proofs.Form.{ready_count, trusted_well, depth_within, trusted_range}
use Rattle.fifo.proofs.Strobes.{checked_well, trusted_of_value}
use Rattle.fifo.proofs.Stepping.{Served, answer_serves, answer_accepts}

-- the memory has a slot for each place where the pointers stand for a queue
trusted_of_memory : (p : Pointers) (words strbs : List ℕ) (q : Queue) → trusted_in p words strbs ≡ well q → trusted (fifo_in p words strbs) ≡ well q
unfolding trusted_in
trusted_of_memory p words strbs q e = by_test (has_slots p.place.depth words strbs) e
  where
    by_test : (b : Bool) → cond b (trusted (fifo_in p words strbs)) ill ≡ well q → trusted (fifo_in p words strbs) ≡ well q
    by_test true e = e
    by_test false e = absurd (clash cc)

-- what is ready by the numbers is what is ready
pub ready_in_lem : (p : Pointers) (words strbs : List ℕ) (q : Queue) → value_in p words strbs ≡ well q → ready_in p ≡ ready q
unfolding value_in
ready_in_lem p words strbs q e =
    sym (ready_count (fifo_in p words strbs))
    ∙ ap ready (trusted_well (fifo_in p words strbs) q (trusted_of_memory p words strbs q (checked_well (trusted_in p words strbs) q e).0)).1

-- a step with a legal payload, which is never refused
pub serves : (p : Pointers) (words strbs : List ℕ) (q : Queue) (offers : Bool) (offer : Payload) (behind clear : Bool) (s : Stepped Pointers)
    (afterWords afterStrbs : List ℕ)
    → value_in p words strbs ≡ well q → legal_strb offer ≡ true → StepsIn p words strbs offers offer behind clear (Ok s) afterWords afterStrbs
    → Served q offers offer behind clear s.valid s.payload (value_in s.next afterWords afterStrbs)
unfolding value_in
serves p words strbs q offers offer behind clear s afterWords afterStrbs before legal steps =
    answer_serves (trusted_in p words strbs) q offers offer behind clear (answered_in p (Ok s) afterWords afterStrbs) before legal steps.answer

pub never_refused : (p : Pointers) (words strbs : List ℕ) (q : Queue) (offers : Bool) (offer : Payload) (behind clear : Bool) (why : Refusal)
    (afterWords afterStrbs : List ℕ)
    → value_in p words strbs ≡ well q → legal_strb offer ≡ true → StepsIn p words strbs offers offer behind clear (Err why) afterWords afterStrbs
    → ⊥
unfolding value_in
never_refused p words strbs q offers offer behind clear why afterWords afterStrbs before legal steps =
    false≢true (answer_accepts (trusted_in p words strbs) q offers offer behind clear (answered_in p (Err why) afterWords afterStrbs) before legal steps.answer)

-- a FIFO that is laid in memory enough for the deepest
pub lays_value : (f : Fifo) (words strbs : List ℕ) (q : Queue) (r : Pointers) (afterWords afterStrbs : List ℕ) → value f ≡ well q
    → max_depth ≤ length words → max_depth ≤ length strbs → LaysIn f words strbs r afterWords afterStrbs → value_in r afterWords afterStrbs ≡ well q
unfolding value value_in
lays_value f words strbs q r afterWords afterStrbs e h k lays =
    let look = trusted_of_value f q e in
    let deep = depth_within f (trusted_range f q look.0) in
    let room : has_slots f.place.depth words strbs ≡ true = rw (le-leb f.place.depth (length words) (omega (arith, deep)), le-leb f.place.depth (length strbs) (omega (arith, deep))) in
    ap strobes_checked (lays.gives ∙ ap (λ (b : Bool). cond b (trusted f) ill) room) ∙ e

-- and one that is gathered again
pub gathers_value : (f : Fifo) (p : Pointers) (words strbs : List ℕ) → trusted f ≡ trusted_in p words strbs → value f ≡ value_in p words strbs
unfolding value value_in
gathers_value f p words strbs e = ap strobes_checked e
