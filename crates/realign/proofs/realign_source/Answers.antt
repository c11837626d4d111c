-- `realign_source` meets its contract: unless there is a refusal, the packets are taken from the words. Assumes nothing.
use mathlib.Core.Path.{sym}
use Rattle.realign.proofs.Answers.{sourced}
use Rattle.realign.proofs.realign_source.Goals as goal

pub returns : goal.returns
returns c =
    let a = c.args in
    sourced a.address a.n a.words.now a.strobes.now a.out.now (sym c.in_ok-source_refusal.ensures) _ c.take.ensures
