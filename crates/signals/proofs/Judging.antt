-- What `finding_below` finds is what `Judges` asks: by induction over the cycles the finding says what it means (`Says`),
-- and of two findings that do, both are the same. Assumes nothing.
use Prim.Native.Nat.{ℕ, zero, suc, ◌+◌, ◌≤◌, ◌<◌}
use native.Mathlib.Omega.{arith}
use native.Mathlib.Numerals.{add-one}
use mathlib.Core.Bool.{Bool, true, false, cond}
use mathlib.Core.List.{List}
use mathlib.Core.Logic.{◌⊎◌, inl, inr, ⊎_elim}
use mathlib.Core.Option.{Option, none, some}
use mathlib.Core.Path.{◌≡◌, refl, sym, ◌∙◌, ap}
use lib.Dec.{ltb}
use borrow.Author.Tests.{ltb-true, ltb-false}
use Rattle.signals.specs.Tables.{Row, first_applying, NoneIn, FirstIn}
use Rattle.signals.specs.Judging.{Finding, clean, broken, found, finding_below, FirstBreach, Judges, count_below}
use Rattle.signals.proofs.Bools.{either, clash}
use Rattle.signals.proofs.Tables.{keeps_none, none_keeps, some_first, first_some}

-- two numbers are equal or one is less
pub order_of : (a b : ℕ) → (a < b) ⊎ ((b < a) ⊎ (a ≡ b))
order_of a b =
    ⊎_elim (λ e. inl (ltb-true a b e))
    (λ e. ⊎_elim (λ f. inr (inl (ltb-true b a f))) (λ f. inr (inr (omega (arith, ltb-false a b e, ltb-false b a f)))) (either (ltb b a)))
    (either (ltb a b))

-- of the cycles 0 to n one is the last
pub before_or_last : (c n : ℕ) → c < suc n → (c < n) ⊎ (c ≡ n)
before_or_last c n h = ⊎_elim inl (λ w. inr (⊎_elim (λ l. absurd (omega arith)) (λ q. q) w)) (order_of c n)

module _ {R : Type 0} (rules : ℕ → List (Row R)) where
  -- what a finding over n cycles means
  abbrev Says : ℕ → Finding R → Type 0
  Says n clean = (c : ℕ) → c < n → NoneIn (rules c)
  Says n (broken r c) = FirstBreach rules n r c

  says_next : (n : ℕ) (finding : Finding R) (breach : Option R) → first_applying (rules n) ≡ breach → Says n finding → Says (suc n) (found finding breach n)
  says_next n clean none e s = λ c h. ⊎_elim (λ l. s c l) (λ q. rw q (none_keeps (rules n) e)) (before_or_last c n h)
  says_next n clean (some r) e s = record { inside = omega arith; rule = some_first (rules n) r e; earlier = s }
  says_next n (broken r c) breach e s = record { inside = omega (arith, s.inside); rule = s.rule; earlier = s.earlier }

  says : (n : ℕ) → Says n (finding_below rules n)
  says zero = λ c h. absurd (omega arith)
  says (suc n) = says_next n (finding_below rules n) (first_applying (rules n)) refl (says n)

  -- a cycle with a breach keeps not every rule
  breach_keeps : (r : R) (c : ℕ) → FirstIn (rules c) r → NoneIn (rules c) → ⊥
  breach_keeps r c i k = let e = sym (first_some (rules c) r i) ∙ keeps_none (rules c) k in
      clash cc

  clean_when : (n : ℕ) (finding : Finding R) → Says n finding → ((c : ℕ) → c < n → NoneIn (rules c)) → finding ≡ clean
  clean_when n clean s k = refl
  clean_when n (broken r c) s k = absurd (breach_keeps r c s.rule (k c s.inside))

  broken_when : (n : ℕ) (finding : Finding R) → Says n finding → (r : R) (c : ℕ) → FirstBreach rules n r c → finding ≡ broken r c
  broken_when n clean s r c f = absurd (breach_keeps r c f.rule (s c f.inside))
  broken_when n (broken q b) s r c f = ⊎_elim before (λ w. ⊎_elim after same w) (order_of b c)
    where
      before : b < c → broken q b ≡ broken r c
      before h = absurd (breach_keeps q b s.rule (f.earlier b h))

      after : c < b → broken q b ≡ broken r c
      after h = absurd (breach_keeps r c f.rule (s.earlier c h))

      same : b ≡ c → broken q b ≡ broken r c
      same e =
          let p = first_some (rules b) q s.rule in
          let o = first_some (rules c) r f.rule in
          let t : some q ≡ some r = sym p ∙ ap (λ (x : ℕ). first_applying (rules x)) e ∙ o in
          cc

  -- the theorem of every checker
  pub judges : (n : ℕ) → Judges rules n (finding_below rules n)
  judges n =
      record {
        clean_exactly = (λ e. means_clean (finding_below rules n) (says n) e, clean_when n (finding_below rules n) (says n));
        broken_exactly = λ r c. (λ e. means_broken (finding_below rules n) (says n) r c e, broken_when n (finding_below rules n) (says n) r c);
      }
    where
      means_clean : (finding : Finding R) → Says n finding → finding ≡ clean → (c : ℕ) → c < n → NoneIn (rules c)
      means_clean finding s e = rw e at s

      means_broken : (finding : Finding R) → Says n finding → (r : R) (c : ℕ) → finding ≡ broken r c → FirstBreach rules n r c
      means_broken finding s r c e = rw e at s

  -- a checker that stops at its first breach answers for the whole trace
  pub stops : (i n : ℕ) (r : R) → i < n → finding_below rules i ≡ clean → first_applying (rules i) ≡ some r → finding_below rules n ≡ broken r i
  stops i n r h e f =
      broken_when n (finding_below rules n) (says n) r i
      (record { inside = h; rule = some_first (rules i) r f; earlier = (judges i).clean_exactly.0 e })

  -- and one that finds no breach goes on
  pub goes_on : (i : ℕ) → finding_below rules i ≡ clean → first_applying (rules i) ≡ none → finding_below rules (i + 1) ≡ clean
  goes_on i e f = rw (add-one i, e, f)

-- a count is at most the number of cycles
pub count_le : (has : ℕ → Bool) (n : ℕ) → count_below has n ≤ n
count_le has zero = omega arith
count_le has (suc n) = one (has n) (count_le has n)
  where
    one : (b : Bool) → count_below has n ≤ n → count_below has n + cond b 1 0 ≤ suc n
    one true h = omega arith
    one false h = omega arith

-- one cycle more
pub count_next : (has : ℕ → Bool) (n : ℕ) → count_below has (n + 1) ≡ count_below has n + cond (has n) 1 0
count_next has n = rw (add-one n)
