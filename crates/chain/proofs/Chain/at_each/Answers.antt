-- The FIFOs before `i` are empty and at their places, of which none is refused; the first place that is stops it. Assumes nothing.
use mathlib.Core.List.{map}
use mathlib.Core.Path.{◌≡◌, sym, ◌∙◌}
use native.Mathlib.Omega.{arith}
use lib.ListN.{length}
use lib.Seq.{take_all}
use Rattle.fifo.specs.Queue.{empty}
use Rattle.chain.proofs.Used.{line_of_wells, value_used}
use Rattle.chain.proofs.Chain.at_each.Goals as goal

pub returns : goal.returns
returns c =
    let l = c.loop-i in
    let places = c.args.places.now in
    let count = sym c.is_legal_count.ensures ∙ c.if-not-is_legal_count.false in
    let end : l.i ≡ length places = omega (arith, l.auto.i-end, c.loop-i-test.false) in
    let whole = take_all l.i places (omega (arith, end)) in
    record {
      refusal = rw (count, rw whole at l.invariant.legal);
      gives =
          value_used (record { count = length places; fifos = l.fifos }) count
          ∙ rw (← end, rw whole at l.invariant.made) (line_of_wells (map empty places));
    }
