-- The claim about refusal 6: the tests refuse each record of `specs/Records.antt`, and accept it mended. It is checked by computation.
-- Assumes nothing.
use Rattle.std.specs.Prelude.{true, false, map, ◌≡◌, refl}
use Rattle.monitor.specs.Record.{legal}
use Rattle.examples.specs.Records.{examples}

pub examples_hold : (map (λ e. legal e.refused) examples ≡ map (λ e. false) examples) × (map (λ e. legal e.mended) examples ≡ map (λ e. true) examples)
examples_hold = (refl, refl)
