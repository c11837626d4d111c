-- A chain that has its form is walked over, and its ready is its first FIFO's. Assumes nothing.
use mathlib.Core.Bool.{Bool, true, false, cond, not, ◌&&◌}
use mathlib.Core.List.{List, [], ◌∷◌, ◌++◌, map}
use mathlib.Core.Path.{◌≡◌, refl, sym, ap, ◌∙◌}
use Prim.Native.Nat.{◌<◌}
use native.Mathlib.Omega.{arith}
use borrow.Author.Tests.{le-leb}
use lib.ListN.{length, get_or, take, drop}
use lib.Seq.{take_at}
use Rattle.fifo.specs.declared.Fifo.{Fifo}
use Rattle.fifo.specs.Queue.{Queue, ready, empty, plain}
use Rattle.fifo.specs.Promises as fifo
use Rattle.fifo.proofs.Stepping.{ready_of_value}
use Rattle.chain.specs.Line.{mouth}
use Rattle.chain.specs.Calls.{is_well, queues}
use Rattle.chain.specs.Promises.{value, line_of}
use Rattle.chain.proofs.Used.{Formed, formed, used_length, queues_length, queue_at, value_used}
use Rattle.chain.proofs.Promising.{step_made}
use Rattle.chain.proofs.Chain.step.Goals as goal
use Rattle.chain.proofs.Chain.step.Goals.{After-is_ready}

-- past the tests the chain has its form, and as many FIFOs as its count says are walked over
form : (c : After-is_ready) → Formed c.args.self
form c = formed c.args.self (sym c.is_well.ensures.value ∙ c.if-not-is_well.false)

long : (c : After-is_ready) → length (take c.args.self.count c.args.self.fifos) ≡ c.args.self.count
long c = used_length c.args.self (form c) c.is_well.ensures.wide

pub slice_bounds-fifos-end : goal.slice_bounds-fifos-end
slice_bounds-fifos-end c =
    let at = (goal.at.slice_bounds-fifos-end c).After-is_ready in omega (arith, (form at).most, c.is_well.ensures.wide)

pub slice_bounds-walk-end : goal.slice_bounds-walk-end
slice_bounds-walk-end c = sym (long (goal.at.slice_bounds-walk-end c).After-is_ready)

pub walk-shown-requires-clause-some : goal.walk-shown-requires-clause-some
walk-shown-requires-clause-some c =
    let at = (goal.at.walk-shown-requires-clause-some c).After-is_ready in omega (arith, (form at).some, long at)

pub walk-shown-requires-clause-stages_value : goal.walk-shown-requires-clause-stages_value
walk-shown-requires-clause-stages_value c =
    ap is_well (form (goal.at.walk-shown-requires-clause-stages_value c).After-is_ready).row

-- ready at the mouth, and not in a clear
unless-clear : (clear is-ready : Bool) → not clear && is-ready ≡ cond clear false is-ready
unless-clear true is-ready = refl
unless-clear false is-ready = refl

-- the mouth is the first FIFO
mouth_first : (qs : List Queue) (sink : Bool) (e : Queue) → 0 < length qs → ready (get_or qs 0 e) ≡ mouth qs sink
mouth_first [] sink e h = absurd (omega arith)
mouth_first (q ∷ qs) sink e h = refl

pub returns : goal.returns
returns c =
    let chain = c.args.self in
    let wide = c.is_well.ensures.wide in
    let at = (goal.at.returns c).After-is_ready in
    let f = form at in
    let qs = queues (value chain) in
    let shows = rw f.row at c.walk-shown.ensures in
    let stages : List Fifo = c.walk-shown.new.stages in
    let rest = drop chain.count chain.fifos in
    let first = queue_at chain f wide 0 _ (empty (plain 2)) f.some in
    step_made chain c.args.cycle _ (sym c.is_well.ensures.value ∙ c.if-not-is_well.false)
    (le-leb _ _ c.if-cycle-gt-MAX_STRB.false)
    (unless-clear c.args.cycle.clear c.is_ready.result
    ∙ ap (λ (b : Bool). cond c.args.cycle.clear false b)
    (c.is_ready.ensures ∙ ready_of_value _ _ first ∙ mouth_first qs c.args.cycle.sink _ (omega (arith, queues_length chain f wide, f.some))))
    shows.valid
    shows.payload
    (value_used (record { count = chain.count; fifos = stages ++ rest }) f.legal
    ∙ ap (λ (fs : List Fifo). line_of (map fifo.value fs)) (take_at stages rest chain.count (c.walk-shown.auto.stages ∙ long at))
    ∙ shows.next)
