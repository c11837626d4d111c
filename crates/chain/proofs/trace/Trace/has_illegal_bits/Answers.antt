-- The control bytes are looked at by a call, and the sink's readies one by one. Assumes nothing.
use mathlib.Core.Path.{◌≡◌}
use lib.Dec.{ltb}
use Rattle.std.proofs.Common.{rules, tests}
use Rattle.std.proofs.lemmas.Iterator.{YieldsList-from_slice}
use Rattle.std.proofs.lemmas.Iterator.Search.{any_from_yields_List}
use Rattle.signals.specs.Refusals.{any_of}
use Rattle.chain.proofs.trace.Trace.has_illegal_bits.Goals as goal

pub returns-else-any_reserved : goal.returns-else-any_reserved
returns-else-any_reserved c =
    let sinks = c.args.self.sink.now in
    let any : c.any.result ≡ any_of (λ s. ltb 1 s) sinks =
    any_from_yields_List (λ s. ltb 1 s) _ _ c.any.result c.any.ensures.ran (YieldsList-from_slice sinks cc)
    (λ x b q k. search (rules, tests))
    in
    rw (← c.any_reserved.ensures, c.if-any_reserved.false, any)
