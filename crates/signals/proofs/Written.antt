-- What every checker's answer means: a verdict has one case, which tells the refusal or the finding, and the finding is judged by
-- `judges`. Assumes nothing.
use Prim.Native.Nat.{ℕ}
use mathlib.Core.Bool.{Bool}
use mathlib.Core.List.{List}
use mathlib.Core.Option.{Option, none, some}
use mathlib.Core.Path.{◌≡◌, refl, ap}
use Rattle.signals.specs.Tables.{Row, first_applying}
use Rattle.signals.specs.Judging.{Finding, clean, broken, count_below, finding_below, cycles_counted}
use Rattle.signals.specs.Written.{RuleName, judged, refused, Judgement, judgement, unless_refused, Meaning}
use Rattle.signals.proofs.Bools.{clash}
use Rattle.signals.proofs.Tables.{first_exactly, none_exactly}
use Rattle.signals.proofs.Judging.{judges}

module _ (refusal : Option ℕ) (j : Judgement) where
  -- a refused answer tells its refusal
  pub tells_refused : (found : Finding RuleName) → j.verdict ≡ judged found → (n : ℕ) → (unless_refused refusal j).verdict ≡ refused n → refusal ≡ some n
  tells_refused found e n h = tells refusal h
    where
      tells : (o : Option ℕ) → (unless_refused o j).verdict ≡ refused n → o ≡ some n
      tells none h = absurd (clash cc)
      tells (some m) h = cc

  -- a judged one tells that there is none
  pub tells_judged : (found : Finding RuleName) → (unless_refused refusal j).verdict ≡ judged found → refusal ≡ none
  tells_judged found h = tells refusal h
    where
      tells : (o : Option ℕ) → (unless_refused o j).verdict ≡ judged found → o ≡ none
      tells none h = refl
      tells (some m) h = absurd (clash cc)

module _ (grounds : List (Row ℕ)) (rules : ℕ → List (Row RuleName)) (handshake : ℕ → Bool) (n : ℕ) where
  abbrev found : Finding RuleName
  found = finding_below rules n

  abbrev answer : Judgement
  answer = unless_refused (first_applying grounds) (judgement rules handshake n)

  accepted : first_applying grounds ≡ none → answer ≡ judgement rules handshake n
  accepted e = rw e

  -- what is judged is what the rules find
  tells : (what : Finding RuleName) → answer.verdict ≡ judged what → (first_applying grounds ≡ none) × (found ≡ what)
  tells what h =
      let free = tells_judged (first_applying grounds) (judgement rules handshake n) what h in
      (free, same (rw free at h))
    where
      same : judged found ≡ judged what → found ≡ what
      same e = cc

  told : (what : Finding RuleName) → first_applying grounds ≡ none → found ≡ what → answer.verdict ≡ judged what
  told what free e = rw (free, e)

  counts : (what : Finding RuleName) → answer.verdict ≡ judged what → answer.handshakes ≡ count_below handshake (cycles_counted what n)
  counts what h = let t = tells what h in rw (t.0, t.1)

  pub means : Meaning grounds rules handshake n answer
  means =
      let rule = judges rules n in
      let none_given = none_exactly grounds in
      record {
        refused_exactly_lem = λ number. (
          λ h. (first_exactly grounds number).0 (tells_refused (first_applying grounds) (judgement rules handshake n) found refl number h),
          λ i. ap (λ (o : Option ℕ). (unless_refused o (judgement rules handshake n)).verdict) ((first_exactly grounds number).1 i),
        );
        clean_exactly = (
          λ h. (let t = tells clean h in (none_given.0 t.0, rule.clean_exactly.0 t.1)),
          λ p. told clean (none_given.1 p.0) (rule.clean_exactly.1 p.1),
        );
        broken_exactly = λ r c. (
          λ h. (let t = tells (broken r c) h in (none_given.0 t.0, (rule.broken_exactly r c).0 t.1)),
          λ p. told (broken r c) (none_given.1 p.0) ((rule.broken_exactly r c).1 p.1),
        );
        clean_count = λ h. counts clean h;
        broken_count = λ r c h. counts (broken r c) h;
        refused_count = λ number h. none_counted (tells_refused (first_applying grounds) (judgement rules handshake n) found refl number h);
      }
    where
      none_counted : {number : ℕ} → first_applying grounds ≡ some number → answer.handshakes ≡ 0
      none_counted e = rw e
