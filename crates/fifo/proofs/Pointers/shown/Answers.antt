-- `Pointers::shown` meets its contract: the oldest payload lies at its position. Assumes nothing.
use mathlib.Core.Path.{refl}
use Rattle.fifo.proofs.Turning.{shows_by}
use Rattle.fifo.proofs.Pointers.shown.Goals as goal

pub returns : goal.returns
returns c = rw c.then_some.ensures (shows_by c.args.self c.requires c.args.clear _ refl)
