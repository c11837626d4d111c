-- What `report` counts lies within the output, and what fits stands at its front. Assumes nothing.
use mathlib.Core.Path.{◌≡◌, refl}
use mathlib.Core.Bool.{Bool, true, false, cond}
use mathlib.Core.List.{List, ◌∷◌, [], ◌++◌}
use Prim.Native.Nat.{ℕ, ◌≤◌}
use native.Mathlib.Omega.{arith}
use borrow.Author.Tests.{ltb-false, le-ltb}
use lib.Dec.{ltb}
use lib.ListN.{length, take, drop, length-append}
use lib.Seq.{take_at}
use Rattle.std.specs.Prelude.{Result, Ok}
use Rattle.std.specs.Result.{result_unwrap_or}
use Rattle.signals.specs.declared.Refusal.{Refusal}
use Rattle.signals.specs.Tables.{◌⇐◌, first_applying}
use Rattle.signals.specs.Refusals.{accepts}
use Rattle.bench_text.specs.Report.{Delivers}

-- what is counted lies within the output
pub count_within : {given out exit : List ℕ} {r : Result ℕ Refusal} → Delivers given out r exit → result_unwrap_or r 0 ≤ length out
count_within {given} {out} {exit} {r} p = rw p.count (of (length given) (length out) (ltb (length out) (length given)) refl)
  where
    of : (m n : ℕ) (b : Bool) → ltb n m ≡ b → cond (accepts (first_applying (7 ⇐ b ∷ []))) m 0 ≤ n
    of m n true e = omega arith
    of m n false e = ltb-false n m e

-- and within what the output holds afterwards
pub count_inside : {given out exit : List ℕ} {r : Result ℕ Refusal} → Delivers given out r exit → result_unwrap_or r 0 ≤ length exit
count_inside {given} {out} {exit} {r} p = rw (p.count, p.writes) (of (ltb (length out) (length given)))
  where
    of : (b : Bool) →
        cond (accepts (first_applying (7 ⇐ b ∷ []))) (length given) 0
        ≤ length (cond (accepts (first_applying (7 ⇐ b ∷ []))) (given ++ drop (length given) out) out)
    of true = omega arith
    of false = simp length-append (omega arith)

-- what fits is what stands in the output as far as it is counted
pub delivered : (given out exit : List ℕ) (n : ℕ) → Delivers given out (Ok n) exit → length given ≤ length out → take n exit ≡ given
delivered given out exit n p h =
    let fits = le-ltb (length out) (length given) h in
    let count : n ≡ length given = rw fits at p.count in
    let writes : exit ≡ given ++ drop (length given) out = rw fits at p.writes in
    rw (count, writes) (take_at given (drop (length given) out) (length given) refl)
