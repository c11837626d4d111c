-- The line that is laid in the parts is the chain's, each cycle is the rule's (`Tracing`), and what is gathered is the line that they
-- leave. Assumes nothing.
use mathlib.Core.List.{List, map}
use mathlib.Core.Path.{◌≡◌, ap, ◌∙◌}
use native.Mathlib.Omega.{arith}
use lib.ListN.{length, drop, length-append, length-drop}
use lib.Seq.{length-take-le, take_at}
use Rattle.std.proofs.Common.{rules}
use Rattle.chain.specs.declared.laid.Part.{Part}
use Rattle.chain.specs.Promises.{line_of}
use Rattle.chain.specs.Cycling.{part_value}
use Rattle.chain.proofs.Used.{formed}
use Rattle.chain.proofs.Tracing.{tracing_start, tracing_on, tracing_end}
use Rattle.chain.proofs.Chain.traced.Goals as goal

pub loop-i-init : goal.loop-i-init
loop-i-init c =
    record {
      tracing = rw c.lay_out.ensures (tracing_start _ _ _ _ c.requires.self_value);
      most = (formed c.args.self c.requires.self_value).most;
      all = search rules;
    }

pub walk-shown-requires-clause-some : goal.walk-shown-requires-clause-some
walk-shown-requires-clause-some c =
    let v = c.loop-i.invariant in
    omega (
      arith,
      (formed c.args.self c.requires.self_value).some,
      length-take-le c.args.self.count c.loop-i.parts (omega (arith, v.most, v.all)),
    )

pub loop-i-preserved : goal.loop-i-preserved
loop-i-preserved c =
    let l = c.loop-i in
    let v = l.invariant in
    let count = c.args.self.count in
    let stages : List Part = c.walk-shown.new.stages in
    let rest = drop count l.parts in
    let long : length stages ≡ count = c.walk-shown.auto.stages ∙ length-take-le count l.parts (omega (arith, v.most, v.all)) in
    let shows = rw c.cycle.ensures.value at c.walk-shown.ensures in
    record {
      tracing =
          tracing_on _ _ _ _ _ _ _ l.i l.out_control l.out_data c.requires.sized v.tracing _ _ _ c.control_byte.result c.loop-i-test.true
          (ap (λ (parts : List Part). line_of (map part_value parts)) (take_at stages rest count long) ∙ shows.next)
          shows.valid
          shows.payload
          (rw (← shows.sink, ← shows.clear) c.control_byte.ensures);
      most = v.most;
      all = simp (length-append, length-drop) (omega (arith, long, v.most, v.all));
    }

pub gather-requires : goal.gather-requires
gather-requires c = (formed c.args.self c.requires.self_value).legal

pub returns : goal.returns
returns c =
    let l = c.loop-i in
    rw c.gather.ensures
    (tracing_end _ _ _ _ _ _ _ l.i l.out_control l.out_data c.requires.sized l.invariant.tracing (omega (arith, l.auto.i-end, c.loop-i-test.false)))
