-- The claim about N1 to N8 and O1 to O6: to every question of `specs/Numbered.antt` the definitions give this answer. It is checked by
-- computation. Assumes nothing.
use Rattle.std.specs.Prelude.{map, ◌≡◌, refl}
use Rattle.examples.specs.Numbered.{answer, examples}

pub examples_hold : map (λ e. answer e.question) examples ≡ map (λ e. e.expected) examples
examples_hold = refl
