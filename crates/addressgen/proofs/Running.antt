-- What a run promises, in its two cases: refused, by the number that is given, and accepted. The rise of ov is that of so many
-- iterations. Assumes nothing.
use Rattle.std.proofs.Common.{◌≡◌, ℕ, eqb, List, ◌++◌, length, drop, Result, Ok, refl, ap, ◌∙◌, arith}
use mathlib.Core.Option.{Option, none, some}
use Rattle.signals.specs.Tables.{first_applying}
use Rattle.signals.specs.declared.Refusal.{Refusal}
use Rattle.addressgen.specs.declared.Settings.{Settings}
use Rattle.addressgen.specs.declared.State.{State}
use Rattle.addressgen.specs.declared.Ran.{Ran}
use Rattle.addressgen.specs.Stepping.{after, addresses}
use Rattle.addressgen.specs.Run.{grounds, Answer, answer_of, iterations, refused_run, answer_to, Generated}
use Rattle.addressgen.proofs.Stepping.{after_rises}

-- the refusal that is answered is the one that is given
pub given_refusal : (s : Settings) (t : State) (n : ℕ) (refusal : Option ℕ) → (answer_to s t n refusal).refusal ≡ refusal
given_refusal s t n none = refl
given_refusal s t n (some number) = refl

pub refused_run_lem :
    (s : Settings) (t : State) (n : ℕ) (before : List ℕ) (number : ℕ) → first_applying (grounds s t n (length before)) ≡ some number →
    (ran : Result Ran Refusal) → answer_of t ran ≡ refused_run t number →
    Generated s t n before before ran
refused_run_lem s t n before number d ran e =
    let none_made : (answer_of t ran).count ≡ 0 = ap (λ (a : Answer). a.count) e in
    record {
      answer = rw d e;
      rise = omega (arith, ap (λ (a : Answer). a.state.ov) e);
      written = rw none_made;
    }

pub accepted_run :
    (s : Settings) (t : State) (n : ℕ) (before : List ℕ) → first_applying (grounds s t n (length before)) ≡ none →
    (count : ℕ) → count ≡ iterations s t n →
    (end : State) → end ≡ after s t count →
    (left : List ℕ) → left ≡ addresses s t count ++ drop count before →
    Generated s t n before left (Ok (record { count = count; state = end; done = eqb end.ov s.total }))
accepted_run s t n before d count e end f left g =
    record { answer = rw (d, f, e); rise = ap (λ (u : State). u.ov) f ∙ after_rises s t count; written = g }
