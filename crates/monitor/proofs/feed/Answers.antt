-- `feed` meets its contract: where `refusal` gives no ground, the record is legal. Assumes nothing.
use mathlib.Core.Path.{sym, ◌∙◌, ap}
use borrow.Author.Tests.{not-false}
use Rattle.signals.proofs.Tables.{none_keeps}
use Rattle.monitor.specs.Bursts.{grounds, ground_of}
use Rattle.monitor.proofs.feed.Goals as goal

pub take-requires-clause-is_legal : goal.take-requires-clause-is_legal
take-requires-clause-is_legal c =
    let a = c.args in
    let free = none_keeps (grounds a.monitor.now a.control.now a.«data».now) (sym c.refusal.ensures ∙ ap ground_of c.in_ok-refusal.was) in
    not-false _ free.1.1.0
