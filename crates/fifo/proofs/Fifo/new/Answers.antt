-- `Fifo::new` meets its contract: what `empty` makes holds nothing, so it has no strobe to look at. Assumes nothing.
use mathlib.Core.Path.{sym, ◌∙◌}
use Rattle.fifo.proofs.Strobes.{value_of_trusted, empty_legal}
use Rattle.fifo.proofs.Fifo.new.Goals as goal

pub returns : goal.returns
returns c =
    let legal = sym c.is_legal.ensures ∙ c.if-not-is_legal.false in
    record { refusal = rw legal; gives = value_of_trusted _ _ c.empty.ensures empty_legal }
