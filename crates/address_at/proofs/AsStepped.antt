-- A run writes the addresses by number, and both calls answer as if the addresses were stepped to: where no settings are refused the
-- engines are equal, and a refused call answers by no engine. Assumes nothing.
use Prim.Native.Nat.{ℕ}
use mathlib.Core.Bool.{false, cond}
use mathlib.Core.List.{[]}
use mathlib.Core.Option.{Option, none, some}
use mathlib.Core.Path.{◌≡◌, refl, sym, ap, ap₂, fun_ext}
use lib.ListN.{length}
use Rattle.signals.specs.Tables.{first_applying}
use Rattle.signals.specs.Refusals.{accepts}
use Rattle.signals.specs.Sequences.{entries_below}
use Rattle.addressgen.specs.declared.Settings.{Settings}
use Rattle.addressgen.specs.Stepping.{start}
use Rattle.addressgen.specs.Run.{bad_mask, ran_of}
use Rattle.addressgen.specs.Meaning.{address_at}
use Rattle.addressgen.proofs.Resuming.{no_ground}
use Rattle.address_at.specs.ByNumber.{address_of}
use Rattle.address_at.specs.AddressAt as ofAddress
use Rattle.address_at.specs.Overlap.{met_below, shared}
use Rattle.address_at.specs.Overlap as ofOverlap
use Rattle.address_at.specs.Meaning.{Fits, RunsAsNumbered, AnswersAsStepped, ListsAsStepped}
use Rattle.address_at.proofs.Answers.{no_bad_mask, first_mask, second_mask}
use Rattle.address_at.proofs.Stepped.{numbered_is_stepped_lem}

same_engine : (s : Settings) → Fits s → bad_mask s ≡ false → address_of s ≡ address_at s
same_engine s fits mask = fun_ext (numbered_is_stepped_lem s (record { d0_fits = fits.d0; d1_fits = fits.d1; mask = mask }))

pub runs_as_numbered_lem : RunsAsNumbered
runs_as_numbered_lem s n room fits accepted =
    ap
    (λ (engine : ℕ → ℕ). entries_below engine (ran_of s start n room).count)
    (sym (same_engine s fits (no_ground s start n room accepted).0))

-- what is made unless there is a refusal, in two ways that are equal where there is none
same_made :
    {A : Type 0} (refusal : Option ℕ) (ours theirs nothing : A) → (refusal ≡ none → ours ≡ theirs) →
    cond (accepts refusal) ours nothing ≡ cond (accepts refusal) theirs nothing
same_made none ours theirs nothing same = same refl
same_made (some number) ours theirs nothing same = refl

pub answers_as_stepped_lem : AnswersAsStepped
answers_as_stepped_lem s i fits =
    ap
    (λ (address : ℕ). record { refusal = first_applying (ofAddress.grounds s i); address = address })
    (same_made _ _ _ 0 (λ e. ap (λ (engine : ℕ → ℕ). engine i) (same_engine s fits (no_bad_mask s i e))))

pub lists_as_stepped_lem : ListsAsStepped
lists_as_stepped_lem first second before left r fits1 fits2 given =
    let same =
    same_made (first_applying (ofOverlap.grounds first second (length before)))
    (shared address_of first second) (shared address_at first second) [] alike in
    record { refusal = given.refusal; count = rw same at given.count; written = rw same at given.written }
  where
    alike :
        first_applying (ofOverlap.grounds first second (length before)) ≡ none →
        shared address_of first second ≡ shared address_at first second
    alike e =
        ap₂
        (λ (ours theirs : ℕ → ℕ). met_below ours (entries_below theirs second.total) first.total)
        (same_engine first fits1 (first_mask first second (length before) e))
        (same_engine second fits2 (second_mask first second (length before) e))
