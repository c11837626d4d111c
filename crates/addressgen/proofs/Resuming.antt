-- A run resumed from the state given back, and a run from the start state. An accepted run has legal settings and a state
-- whose ov is at most total, and so has the state that it gives back; the rest are the laws of the iterations. Assumes nothing.
use Rattle.std.proofs.Common.{◌≡◌, ℕ, ◌+◌, ◌-◌, ◌≤◌, min, false, eqb, leb, sym, refl, ap, ◌∙◌, arith, ltb-false}
use Rattle.std.proofs.lemmas.Grind.{common_steps}
use mathlib.Core.Option.{none}
use Rattle.signals.specs.Tables.{first_applying, NoneIn}
use Rattle.signals.proofs.Tables.{none_keeps}
use Rattle.addressgen.specs.declared.Settings.{Settings}
use Rattle.addressgen.specs.declared.State.{State}
use Rattle.addressgen.specs.Stepping.{start, after}
use Rattle.addressgen.specs.Overwriting.{overwrites_itself}
use Rattle.addressgen.specs.Run.{bad_mask, grounds, iterations, ran_for, ran_of}
use Rattle.addressgen.specs.Resuming.{AreOne, RunsResume, RunsFinish}
use Rattle.addressgen.proofs.Running.{given_refusal}
use Rattle.addressgen.proofs.Stepping.{after_rises, after_adds, addresses_add}

module _ (s : Settings) (t : State) (n room : ℕ) where
  -- an answer without a refusal: no ground applied
  pub no_ground : (ran_of s t n room).refusal ≡ none → NoneIn (grounds s t n room)
  no_ground e = none_keeps (grounds s t n room) (sym (given_refusal s t n (first_applying (grounds s t n room))) ∙ e)

  -- with legal settings, ov at most total and room the answer is that of the iterations
  ran_accepted :
      bad_mask s ≡ false → overwrites_itself s ≡ false → t.ov ≤ s.total → n ≤ room →
      ran_of s t n room ≡ ran_for s t (iterations s t n)
  ran_accepted e o h g = grind (arith, common_steps)

-- the smaller of n + m and what is left: first of n, then of m and what is left after that
split_count : (n m total ov : ℕ) → min (n + m) (total - ov) ≡ min n (total - ov) + min m (total - (ov + min n (total - ov)))
split_count n m total ov = omega arith

-- the state that a run gives back
abbrev given_back : Settings → State → ℕ → State
given_back s t n = after s t (iterations s t n)

given_back_ov : (s : Settings) (t : State) (n : ℕ) → (given_back s t n).ov ≡ t.ov + iterations s t n
given_back_ov s t n = after_rises s t (iterations s t n)

module _ (s : Settings) (t : State) (n m : ℕ) where
  abbrev between : State
  between = given_back s t n

  counts_add : iterations s t (n + m) ≡ iterations s t n + iterations s between m
  counts_add = rw (given_back_ov s t n) (split_count n m s.total t.ov)

  states_meet : given_back s t (n + m) ≡ given_back s between m
  states_meet = rw counts_add (after_adds s t (iterations s t n) (iterations s between m))

  are_one :
      AreOne s t (ran_for s t (iterations s t n)) (ran_for s between (iterations s between m))
      (ran_for s t (iterations s t (n + m)))
  are_one =
      record {
        second_accepted = refl;
        whole_accepted = refl;
        count = counts_add;
        given = rw counts_add (addresses_add s t (iterations s t n) (iterations s between m));
        state = states_meet;
        done = ap (λ (u : State). eqb u.ov s.total) states_meet;
      }

pub runs_resume_lem : RunsResume
runs_resume_lem s t n m room room' room'' e h g =
    let k = no_ground s t n room e in
    let legal : t.ov ≤ s.total = omega (arith, ltb-false) in
    let first = ran_accepted s t n room k.0 k.1.0 legal (omega (arith, ltb-false)) in
    let second = ran_accepted s (given_back s t n) m room' k.0 k.1.0 (omega (arith, given_back_ov s t n)) h in
    let whole = ran_accepted s t (n + m) room'' k.0 k.1.0 legal g in
    rw (first, second, whole) (are_one s t n m)

-- the smaller of n and total is total exactly when n reaches it
reaches : (n total ov : ℕ) → ov ≡ 0 + min n (total - 0) → eqb ov total ≡ leb total n
reaches n total ov e = grind (arith, common_steps)

pub runs_finish_lem : RunsFinish
runs_finish_lem s n room e o h =
    rw (ran_accepted s start n room e o (omega arith) h)
    (record {
      accepted = refl;
      done = reaches n s.total (given_back s start n).ov (given_back_ov s start n);
      count = λ g. omega arith;
    })
