-- By the count, then by the FIFOs. Assumes nothing.
use mathlib.Core.Path.{sym, ◌∙◌}
use lib.ListN.{take}
use Rattle.std.proofs.Common.{rules}
use Rattle.std.proofs.lemmas.Iterator.{YieldsList-from_slice}
use Rattle.std.proofs.lemmas.Iterator.Search.{all_from_yields_List}
use Rattle.std.proofs.lemmas.List.Folds.{list_all-map}
use Rattle.fifo.specs.Queue as queue
use Rattle.fifo.specs.Promises as fifo
use Rattle.chain.proofs.Used.{value_used, value_uncounted, line_well}
use Rattle.chain.proofs.Chain.is_well.Goals as goal

pub returns-then-is_legal_count-clause-value : goal.returns-then-is_legal_count-clause-value
returns-then-is_legal_count-clause-value c =
    let chain = c.args.self.now in
    let used = take chain.count chain.fifos in
    rw (value_used chain (sym c.is_legal_count.ensures ∙ c.if-is_legal_count.true), line_well, list_all-map)
    (all_from_yields_List (λ f. queue.is_well (fifo.value f)) _ _ c.all.result c.all.ensures.ran
    (YieldsList-from_slice used cc)
    (λ x b q k. search rules))

pub returns-else-is_legal_count-clause-value : goal.returns-else-is_legal_count-clause-value
returns-else-is_legal_count-clause-value c =
    rw (value_uncounted _ (sym c.is_legal_count.ensures ∙ c.if-is_legal_count.false)) c.if-is_legal_count.false
