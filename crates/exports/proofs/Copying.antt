-- One turn of the loop that copies bytes: what is copied grows by one byte and takes one of what was there. Assumes nothing.
use Prim.Native.Nat.{ℕ, ◌+◌, ◌<◌}
use native.Mathlib.Numerals.{add-one}
use native.Mathlib.Omega.{arith}
use mathlib.Core.List.{List, ◌++◌}
use mathlib.Core.Path.{◌≡◌, ◌∙◌}
use lib.ListN.{length, take, drop, set, get_or, length-take}
use lib.Seq.{take-suc}
use Rattle.signals.proofs.Writing.{writes_one}

pub copies_next :
    (bytes before out : List ℕ) (i : ℕ) → i < length bytes → i < length before → out ≡ take i bytes ++ drop i before →
    set out i (get_or bytes i 0) ≡ take (i + 1) bytes ++ drop (i + 1) before
copies_next bytes before out i inside fits e =
    writes_one (take i bytes) i before out (simp length-take (omega arith)) fits e (get_or bytes i 0) ∙ rw (add-one i, take-suc bytes i 0)
