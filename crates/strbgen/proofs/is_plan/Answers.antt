-- `strbgen::is_plan` meets its contract: of two words or more the first, the last and those between are held against the plan's.
-- Assumes nothing.
use Prim.Native.Nat.{◌%◌, ◌-◌}
use native.Mathlib.Omega.{arith}
use mathlib.Core.Path.{◌≡◌, ◌∙◌}
use lib.ListN.{length, take, drop}
use Rattle.strbgen.proofs.Given.{by_parts, each_planned}
use Rattle.strbgen.proofs.is_plan.Goals as goal

pub returns-after-loop-strobe : goal.returns-after-loop-strobe
returns-after-loop-strobe c =
    let a = c.args in
    let l = c.loop-strobe in
    let words = c.plan_words.result in
    let size : length a.given.now ≡ words = c.if-given-plan_words.false in
    let end : l.strobe-index ≡ length (take (length a.given.now - 1 - 1) (drop 1 a.given.now)) = omega arith in
    let parts = rw (end, c.ends-first.ensures.0, c.ends-first.ensures.1) at l.invariant in
    each_planned (a.address % 4) a.n words a.given.now c.plan_words.ensures size l.same
    (parts ∙ by_parts (a.address % 4) words a.given.now (omega arith) size)
