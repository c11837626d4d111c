-- The claim about bursts: every cutting of `specs/Bursts.antt` leaves the record beside it. It is checked by computation. Assumes nothing.
use Rattle.std.specs.Prelude.{map, ◌≡◌, refl}
use Rattle.monitor.specs.Bursts.{fed_by}
use Rattle.monitor.specs.Record.{fresh}
use Rattle.monitor.specs.Theorems.{after}
use Rattle.examples.specs.Bursts.{examples}

pub examples_hold : map (λ e. after (fresh e.seq_on) e.bursts) examples ≡ map (λ e. e.expected) examples
unfolding fed_by
examples_hold = refl
