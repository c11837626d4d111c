-- The FIFOs nearest the outlet have been passed, as many as were yielded (`Passed`), and each turn passes one more or finds the payload
-- there. Assumes nothing.
use mathlib.Core.List.{[]}
use mathlib.Core.Path.{◌≡◌, sym, ap, subst, ◌∙◌}
use Prim.Native.Nat.{◌+◌, ◌-◌, ◌*◌, ◌≤◌, ◌<◌, max}
use native.Mathlib.Omega.{arith}
use lib.ListN.{length, take, drop, drop_of_length-le}
use Rattle.std.proofs.lemmas.Iterator.Adapters.{YieldsList-from_rev_slice}
use Rattle.std.proofs.lemmas.Iterator.Consumers.{YieldsList-from_enumerate, YieldsList-turn}
use Rattle.std.proofs.lemmas.List.{length_push}
use Rattle.std.proofs.Common.{rules}
use Rattle.fifo.specs.Queue.{max_depth}
use Rattle.places.specs.Listing.{max_fifos}
use Rattle.chain.specs.Calls.{queues}
use Rattle.chain.specs.Timing.{delivery_time}
use Rattle.chain.specs.Promises.{value}
use Rattle.chain.proofs.Used.{formed, queues_length}
use Rattle.chain.proofs.Need.{count}
use Rattle.chain.proofs.Timing.{count_dropped, time_dropped}
use Rattle.chain.proofs.Pass.{Passed, passed_none, soon, passes, finds_held, finds_time, greater, Next, next_fifo}
use Rattle.chain.proofs.Promising.{time_found}
use Rattle.chain.proofs.Chain.time_of.Goals as goal
use Rattle.chain.proofs.Chain.time_of.Goals.{After-max-first}

pub shared_ref_as_front-iter : goal.shared_ref_as_front-iter
shared_ref_as_front-iter c = (formed c.args.self.now c.requires).most

pub loop-ahead-init : goal.loop-ahead-init
loop-ahead-init c =
    let chain = c.args.self.now in
    let wide : length chain.fifos ≡ max_fifos = search rules in
    let f = formed chain c.requires in
    let none : drop (chain.count - 0) (queues (value chain)) ≡ [] =
    drop_of_length-le (queues (value chain)) {i = chain.count - 0} (omega (arith, queues_length chain f wide))
    in
    record {
      pass = subst (λ qs. Passed qs c.args.i 0 c.args.i 0) (sym none) (passed_none c.args.i);
      inside = omega arith;
      most = f.most;
      wide = wide;
    }

-- the FIFO of a turn, and when the first payload in it goes
next : (c : After-max-first)
    → Next (queues (value c.args.self.now)) c.args.self.now.count (length c.loop-ahead.yielded) c.in-Some.ahead c.in-Some.fifo.now
next c =
    let chain = c.args.self.now in
    let w = c.loop-ahead in
    let all = YieldsList-from_enumerate (YieldsList-from_rev_slice (take chain.count chain.fifos) (cc)) (cc) in
    next_fifo chain (formed chain c.requires) w.invariant.wide _ _ _
    (YieldsList-turn all w.yielded _ w.yielded_by _ _ (c.in-Some.ahead, c.in-Some.fifo) c.in-Some.is c.next.ensures.steps)

first : (c : After-max-first) → c.max-first.result ≡ max c.loop-ahead.busy (length c.loop-ahead.yielded)
first c = c.max-first.ensures ∙ greater _ _ ∙ ap (max c.loop-ahead.busy) (next c).number

first_soon : (c : After-max-first) → c.max-first.result ≤ max_fifos * max_depth + max_fifos
first_soon c =
    let v = c.loop-ahead.invariant in omega (arith, first c, soon _ _ _ _ _ v.pass, v.inside, v.most)

pub overflow_add-result : goal.overflow_add-result
overflow_add-result c =
    let at = (goal.at.overflow_add-result c).After-max-first in
    omega (arith, first_soon at, c.if-left-held.true, c.held-held.ensures, (next at).has, (next at).most)

pub overflow_add-busy : goal.overflow_add-busy
overflow_add-busy c =
    let at = (goal.at.overflow_add-busy c).After-max-first in
    omega (arith, first_soon at, c.held-held.ensures, (next at).has, (next at).most)

pub returns-then-left-held : goal.returns-then-left-held
returns-then-left-held c =
    let at = (goal.at.returns-then-left-held c).After-max-first in
    let n = next at in
    let w = c.loop-ahead in
    let chain = c.args.self.now in
    let row = queues (value chain) in
    let here = c.if-left-held.true in
    let has = c.held-held.ensures ∙ n.has in
    let held = subst (λ qs. c.args.i < count qs) (sym n.stands) (finds_held n.queue _ _ _ _ _ _ w.invariant.pass has here) in
    time_found chain c.args.i _ c.requires
    (omega (arith, held, count_dropped (chain.count - (length w.yielded + 1)) row))
    (ap (λ x. x + w.left) (first at)
    ∙ finds_time n.queue _ _ _ _ _ _ w.invariant.pass has here
    ∙ ap (λ qs. delivery_time qs c.args.i) (sym n.stands)
    ∙ sym (time_dropped (chain.count - (length w.yielded + 1)) row c.args.i held))

pub loop-ahead-preserved : goal.loop-ahead-preserved
loop-ahead-preserved c =
    let at = (goal.at.loop-ahead-preserved c).After-max-first in
    let n = next at in
    let v = c.loop-ahead.invariant in
    let has = c.held-held.ensures ∙ n.has in
    record {
      pass =
          rw (length_push, first at, n.stands) (passes n.queue _ _ _ _ _ _ v.pass has (omega (arith, has, n.most)) c.if-left-held.false);
      inside = rw length_push (omega (arith, n.inside));
      most = v.most;
      wide = v.wide;
    }
