-- `judge` meets its contract: what a turn of the loop is given is the next cycle of the trace (`turn`), so that `Watching` has the
-- answer at a breach and the invariant after a cycle with none. Assumes nothing.
use Prim.Native.Nat.{ℕ, ◌<◌}
use native.Mathlib.Nat.{zero-add}
use native.Mathlib.Omega.{arith}
use mathlib.Core.List.{List}
use mathlib.Core.Path.{◌≡◌, sym, ◌∙◌, ap}
use lib.ListN.{length, get_or, length-append}
use Rattle.std.proofs.lemmas.Iterator.{YieldsList-from_slice, YieldsList-from_zip}
use Rattle.std.proofs.lemmas.Iterator.Consumers.{YieldsList-from_enumerate, YieldsList-turn}
use Rattle.std.proofs.lemmas.List.{get_or_default}
use Rattle.std.proofs.lemmas.List.FromFn.{length-enumerate_from, get_or-enumerate_from}
use Rattle.std.proofs.lemmas.Slice.Zip.{length-zip, get_or-zip}
use Rattle.std.specs.List.{zip, enumerate_from}
use Rattle.signals.specs.Memory.{access, access_at}
use Rattle.mem_checker.proofs.Watching.{handshakes_le, own_broken, align_broken, follows_next}
use Rattle.mem_checker.proofs.cycles.judge.Given.{Over}
use Rattle.mem_checker.proofs.cycles.judge.Goals.{In-Some}
use Rattle.mem_checker.proofs.cycles.judge.Goals as goal

-- the pair of a number below both lengths
pair_is :
    (ks vs : List ℕ) (n : ℕ) (p : ℕ × (ℕ × ℕ)) → n < length (enumerate_from 0 (zip ks vs)) → p ≡ get_or (enumerate_from 0 (zip ks vs)) n p →
    (p.0 ≡ n) × (n < length ks) × (p.1.0 ≡ get_or ks n 0) × (p.1.1 ≡ get_or vs n 0)
pair_is ks vs n p few e =
    let few : n < length (zip ks vs) = omega (arith, length-enumerate_from 0 (zip ks vs)) in
    let inside : n < length ks = omega (arith, length-zip ks vs) in
    let within : n < length vs = omega (arith, length-zip ks vs) in
    let shown = rw (get_or-enumerate_from 0 (zip ks vs) n p few, get_or-zip ks vs n p.1 inside within) at e in (
      ap (λ (q : ℕ × (ℕ × ℕ)). q.0) shown ∙ zero-add n,
      inside,
      ap (λ (q : ℕ × (ℕ × ℕ)). q.1.0) shown ∙ get_or_default ks n p.1.0 0 inside,
      ap (λ (q : ℕ × (ℕ × ℕ)). q.1.1) shown ∙ get_or_default vs n p.1.1 0 within,
    )

-- a turn of the loop: its pair is numbered as the cycle after those passed, and shows that cycle
turn :
    (g : Over) (c : In-Some g) →
    let a = c.args in
    let n = length c.loop-cycle.yielded in
    (c.in-Some.cycle ≡ n) × (n < length a.control.now)
    × (access c.in-Some.control.now c.in-Some.add.now ≡ access_at a.control.now a.add.now n)
turn g c =
    let a = c.args in
    let l = c.loop-cycle in
    let s = c.in-Some in
    let t = YieldsList-turn
    (YieldsList-from_enumerate (YieldsList-from_zip (YieldsList-from_slice a.control.now (cc)) (YieldsList-from_slice a.add.now (cc))) (cc))
    l.yielded l.cycle-iterator l.yielded_by c.next.result c.next.new.self (s.cycle, (s.control, s.add)) s.is c.next.ensures.steps in
    let p = pair_is a.control.now a.add.now (length l.yielded) _ t.0 t.1 in
    (p.0, p.1, λ i. access (p.2 i) (p.3 i))

pub returns-then-breaks : goal.returns-then-breaks
returns-then-breaks g c =
    let t = turn g (goal.at.returns-then-breaks g c).In-Some in
    let own = sym (c.breaks.ensures c.in-Some.add.now) ∙ c.if-breaks.true in
    rw (c.broken.ensures, c.RULE.ensures, t.0)
    (own_broken g.met.P.Protocol.laws (access_at c.args.control.now c.args.add.now) c.loop-cycle.invariant t.2 _ t.1 own)

pub returns-then-breaks_align : goal.returns-then-breaks_align
returns-then-breaks_align g c =
    let t = turn g (goal.at.returns-then-breaks_align g c).In-Some in
    let own = sym (c.breaks.ensures c.in-Some.add.now) ∙ c.if-breaks.false in
    let align = sym c.breaks_align.ensures ∙ c.if-breaks_align.true in
    rw (c.broken-then-breaks_align.ensures, t.0)
    (align_broken g.met.P.Protocol.laws (access_at c.args.control.now c.args.add.now) c.loop-cycle.invariant t.2 _ t.1 own align)

pub next-watch-requires : goal.next-watch-requires
next-watch-requires g c =
    let t = turn g (goal.at.next-watch-requires g c).In-Some in
    omega (arith, t.1, handshakes_le (access_at c.args.control.now c.args.add.now) c.loop-cycle.invariant)

pub loop-cycle-preserved : goal.loop-cycle-preserved
loop-cycle-preserved g c =
    let t = turn g (goal.at.loop-cycle-preserved g c).In-Some in
    let own = sym (c.breaks.ensures c.in-Some.add.now) ∙ c.if-breaks.false in
    let align = sym c.breaks_align.ensures ∙ c.if-breaks_align.false in
    rw (length-append, c.next-watch.ensures)
    (follows_next g.met.P.Protocol.laws (access_at c.args.control.now c.args.add.now) c.loop-cycle.invariant t.2 own align)
