-- `Fifo::is_well` meets its contract: with the numbers in range, the strobes that are left to look at decide it. Assumes nothing.
use Prim.Native.Nat.{◌+◌, ◌-◌, ◌<◌, ◌≤◌}
use native.Mathlib.Omega.{arith}
use mathlib.Core.Bool.{true}
use mathlib.Core.Path.{◌≡◌, refl, sym, ap, ◌∙◌}
use Rattle.fifo.specs.declared.Fifo.{Fifo}
use Rattle.fifo.specs.Queue.{is_well, legal_strbs, max_depth}
use Rattle.fifo.specs.Ring.{ring, in_range}
use Rattle.fifo.proofs.Depths.{depth_most}
use Rattle.fifo.proofs.Form.{form_of, trusted_in_lem, trusted_out}
use Rattle.fifo.proofs.Places.{wrapped_below}
use Rattle.fifo.proofs.Slots.{strobe_legal, strobe_illegal}
use Rattle.fifo.proofs.Strobes.{well_strobes, ill_value}
use Rattle.fifo.proofs.Fifo.is_well.Goals as goal

-- a ring fits in the slots
deep : (f : Fifo) → in_range f ≡ true → (f.oldest < f.place.depth) × (f.place.depth ≤ max_depth)
deep f e = let form = form_of f e in (form.oldest, depth_most f.place form.place)

pub returns-then-not-is_in_range : goal.returns-then-not-is_in_range
returns-then-not-is_in_range c =
    let f = c.args.self in
    sym (ap is_well (ill_value f (trusted_out f (sym c.is_in_range.ensures ∙ c.if-not-is_in_range.true))))

pub loop-i-init : goal.loop-i-init
loop-i-init c =
    let f = c.args.self in
    let all : f.count - 0 ≡ f.count = omega arith in
    rw all (refl, (deep f (sym c.is_in_range.ensures ∙ c.if-not-is_in_range.false)).0)

pub returns-then-held-gt-MAX_STRB : goal.returns-then-held-gt-MAX_STRB
returns-then-held-gt-MAX_STRB c =
    let f = c.args.self in
    let l = c.loop-i in
    let inside = sym c.is_in_range.ensures ∙ c.if-not-is_in_range.false in
    sym (well_strobes f _ (trusted_in_lem f inside)
    ∙ l.invariant.0
    ∙ strobe_illegal f.slots f.place.depth l.at (f.count - l._i) (omega arith) c.if-held-gt-MAX_STRB.true)

pub loop-i-preserved : goal.loop-i-preserved
loop-i-preserved c =
    let f = c.args.self in
    let l = c.loop-i in
    let left : f.count - (l._i + 1) ≡ f.count - l._i - 1 = omega arith in
    rw (left, c.wrap-at.ensures) (
      l.invariant.0 ∙ strobe_legal f.slots f.place.depth l.at (f.count - l._i) (omega arith) c.if-held-gt-MAX_STRB.false,
      wrapped_below f.place.depth l.at 1 (omega arith),
    )

pub returns : goal.returns
unfolding ring legal_strbs
returns c =
    let f = c.args.self in
    let l = c.loop-i in
    let none : f.count - l._i ≡ 0 = omega arith in
    sym (well_strobes f _ (trusted_in_lem f (sym c.is_in_range.ensures ∙ c.if-not-is_in_range.false)) ∙ rw none at l.invariant.0)
