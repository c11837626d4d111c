-- Rule 4 by index. By induction `first_wen` is the wen of the first handshake (`FirstSays`), and there is only one first handshake.
-- Assumes nothing.
use Prim.Native.Nat.{ℕ, zero, suc, ◌<◌}
use native.Mathlib.Omega.{arith}
use mathlib.Core.Bool.{Bool, true, false, not, beq, ◌&&◌, false≢true}
use mathlib.Core.Logic.{⊎_elim}
use mathlib.Core.Option.{Option, none, some}
use mathlib.Core.Path.{◌≡◌, refl, sym, ◌∙◌, ap}
use borrow.Author.Tests.{not-true}
use Rattle.std.specs.Cmp.{booleans_Decides}
use Rattle.signals.specs.Memory.{Access, granted}
use Rattle.signals.proofs.Bools.{either, both, not_both}
use Rattle.signals.proofs.Judging.{order_of, before_or_last}
use Rattle.mem_checker.specs.Rules.{first_wen, or_wen_of, differs}
use Rattle.mem_checker.specs.Meaning.{FirstHandshake, Turns, DirectionByIndex}

-- two bools differ, as a test and as a fact
unlike : (a b : Bool) → not (beq a b) ≡ true → a ≡ b → ⊥
unlike a b e q = not_both (beq a b) ((booleans_Decides a b).1 q) (not-true (beq a b) e)

unlike_test : (a b : Bool) → (a ≡ b → ⊥) → not (beq a b) ≡ true
unlike_test a b h = ⊎_elim (λ t. absurd (h ((booleans_Decides a b).0 t))) (λ f. rw f) (either (beq a b))

module _ (trace : ℕ → Access) where
  -- the first handshake before cycle c has this wen
  record FirstHas (c : ℕ) (wen : Bool) : Type 0 where
    at : ℕ
    is_first : FirstHandshake trace c at
    has : (trace at).wen ≡ wen

  abbrev FirstSays : ℕ → Option Bool → Type 0
  FirstSays c none = (a : ℕ) → a < c → granted (trace a) ≡ false
  FirstSays c (some wen) = FirstHas c wen

  says_next : (c : ℕ) (first : Option Bool) → FirstSays c first → FirstSays (suc c) (or_wen_of first (trace c))
  says_next c (some wen) s =
      record {
        at = s.at;
        is_first = record { before = omega (arith, s.is_first.before); shaken = s.is_first.shaken; earlier = s.is_first.earlier };
        has = s.has;
      }
  says_next c none s = ⊎_elim (λ t. rw t (this t)) (λ f. rw f (still f)) (either (granted (trace c)))
    where
      this : granted (trace c) ≡ true → FirstHas (suc c) (trace c).wen
      this t = record { at = c; is_first = record { before = omega arith; shaken = t; earlier = s }; has = refl }

      still : granted (trace c) ≡ false → (a : ℕ) → a < suc c → granted (trace a) ≡ false
      still f a h = ⊎_elim (λ l. s a l) (λ q. rw q f) (before_or_last a c h)

  says : (c : ℕ) → FirstSays c (first_wen trace c)
  says zero = λ a h. absurd (omega arith)
  says (suc c) = says_next c (first_wen trace c) (says c)

  -- there is one first handshake
  first_same : (c a b : ℕ) → FirstHandshake trace c a → FirstHandshake trace c b → a ≡ b
  first_same c a b p q =
      ⊎_elim (λ l. absurd (not_both _ p.shaken (q.earlier a l)))
      (λ w. ⊎_elim (λ l. absurd (not_both _ q.shaken (p.earlier b l))) (λ e. e) w) (order_of a b)

  turns : (c : ℕ) (first : Option Bool) → FirstSays c first → granted (trace c) && differs first (trace c).wen ≡ true → Turns trace c
  turns c none s e = absurd (false≢true (both (granted (trace c)) false e).1)
  turns c (some wen) s e =
      let b = both (granted (trace c)) (not (beq (trace c).wen wen)) e in
      record { first = s.at; is_first = s.is_first; shaken = b.0; other = λ q. unlike (trace c).wen wen b.1 (q ∙ s.has) }

  turned : (c : ℕ) (first : Option Bool) → FirstSays c first → Turns trace c → granted (trace c) && differs first (trace c).wen ≡ true
  turned c none s t = absurd (not_both _ t.is_first.shaken (s t.first t.is_first.before))
  turned c (some wen) s t =
      let same = ap (λ (k : ℕ). (trace k).wen) (first_same c t.first s.at t.is_first s.is_first) in
      rw t.shaken (unlike_test (trace c).wen wen (λ q. t.other (q ∙ sym s.has ∙ sym same)))

pub direction_by_index_lem : DirectionByIndex
direction_by_index_lem trace c = (turns trace c (first_wen trace c) (says trace c), turned trace c (first_wen trace c) (says trace c))
