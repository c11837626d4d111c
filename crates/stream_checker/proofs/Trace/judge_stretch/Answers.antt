-- `judge_stretch` meets its contract: a breach ends the stretch by `sight_stops`, and a cycle with none keeps the invariant by
-- `sight_goes`. Assumes nothing.
use mathlib.Core.Path.{◌≡◌, refl, sym, ◌∙◌, ap}
use Prim.Native.Nat.{ℕ, ◌+◌, ◌<◌, ◌≤◌}
use mathlib.Core.Bool.{Bool, true, false, cond}
use mir.Val.{bool_byte}
use native.Mathlib.Omega.{arith}
use Rattle.stream_checker.specs.Step.{common_length, rule_in}
use Rattle.stream_checker.proofs.Judged.{sight_stops, sight_goes}
use Rattle.stream_checker.proofs.Trace.judge_stretch.Goals as goal

pub returns-in-Some : goal.returns-in-Some
returns-in-Some c w s =
    let a = c.args in
    let inside : c.loop-cycles.cycles < common_length a.self.control.now a.self.«data».now =
    omega (arith, c.loop-cycles-test.true, c.cycles-cycles-end.ensures) in
    sight_stops (c.loop-cycles.invariant.1 w s) (sym c.clear.ensures ∙ c.if-clear.false) _ _ inside
    (ap rule_in (sym c.in-Some.is) ∙ c.breach.ensures)

-- a test as a number, and that it adds at most one
one_where : (b : Bool) → bool_byte b ≡ cond b 1 0
one_where true = refl
one_where false = refl

at_most_one : (n i : ℕ) (b : Bool) → n ≤ i → n + cond b 1 0 ≤ i + 1
at_most_one n i true h = omega arith
at_most_one n i false h = omega arith

pub loop-cycles-preserved : goal.loop-cycles-preserved
loop-cycles-preserved c =
    let l = c.loop-cycles in
    let one = c.from-handshakes.ensures ∙ one_where c.handshake.result in (
      rw one (at_most_one l.handshakes l.cycles c.handshake.result l.invariant.0),
      λ w s.
          rw (one, c.handshake.ensures, c.next-watch.ensures)
          (sight_goes (l.invariant.1 w s) (sym c.clear.ensures ∙ c.if-clear.false) (ap rule_in (sym c.in_default.is) ∙ c.breach.ensures)),
    )
