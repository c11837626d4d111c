-- The claim about P1 to P12, C1 to C6 and S1 to S8: to every question of `specs/Bench.antt` the definitions give the answer that the papers
-- give. It is checked by computation. Assumes nothing.
use Rattle.std.specs.Prelude.{map, ◌≡◌, refl}
use Rattle.stream_checker.specs.Verdicts.{check_stream}
use Rattle.mem_checker.specs.Verdicts.{check_mem}
use Rattle.examples.specs.Bench.{answer, examples}

pub examples_hold : map (λ e. answer e.question) examples ≡ map (λ e. e.expected) examples
unfolding check_stream check_mem
examples_hold = refl
