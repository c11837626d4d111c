-- The claim about A1 to A11: to every question of `specs/Realigned.antt` the definitions give this answer. It is checked by computation.
-- Assumes nothing.
use Rattle.std.specs.Prelude.{map, ◌≡◌, refl}
use Rattle.examples.specs.Realigned.{answer, examples}

pub examples_hold : map (λ e. answer e.question) examples ≡ map (λ e. e.expected) examples
examples_hold = refl
