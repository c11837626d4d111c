-- `strbgen::fill` meets its contract: full strobes, and the last and the first over them. Assumes nothing.
use native.Mathlib.Omega.{arith}
use lib.ListN.{length}
use Rattle.strbgen.proofs.Filled.{filled}
use Rattle.strbgen.proofs.fill.Goals as goal

pub returns-then-words-gt0 : goal.returns-then-words-gt0
returns-then-words-gt0 c =
    rw (c.ends-first.ensures.1, c.ends-first.ensures.0, c.fill.ensures.after (λ y h. h)) (filled _ (length c.args.out.now) (omega arith))
