-- One cycle more: a record to which bursts lead takes a burst of one cycle, so bursts lead to what that makes of it.
-- The burst is put behind the others, none of which is refused, and neither is this one. Assumes nothing.
use Prim.Native.Nat.{ℕ, zero, suc, ◌+◌, ◌<◌, ◌≤◌, ◌^◌}
use native.Mathlib.Omega.{arith}
use mathlib.Core.Bool.{Bool, true, false, cond}
use mathlib.Core.List.{List, [], ◌∷◌, ◌++◌}
use mathlib.Core.Logic.{⊎_elim}
use mathlib.Core.Path.{◌≡◌, refl, ◌∙◌, ap, subst}
use borrow.Author.Tests.{le-ltb}
use Rattle.std.specs.Prelude.{Ok}
use Rattle.signals.specs.Refusals.{accepts, refusal_of}
use Rattle.signals.specs.Stream.{sample, reserved_bit}
use Rattle.signals.proofs.Judging.{before_or_last}
use Rattle.signals.proofs.Tables.{keeps_none}
use Rattle.monitor.specs.declared.Monitor.{Monitor}
use Rattle.monitor.specs.Bursts.{max_seen, grounds, fed_by, left_by}
use Rattle.monitor.specs.Cycle.{one_more}
use Rattle.monitor.specs.Record.{fresh, legal}
use Rattle.monitor.specs.Theorems.{Burst, after, taken, Recorded, Reached}
use Rattle.monitor.proofs.Keeps.{reached_legal}

-- bursts after bursts: the record after both, and which of them are taken
after_append : (xs ys : List Burst) (m : Monitor) → after m (xs ++ ys) ≡ after (after m xs) ys
after_append [] ys m = refl
after_append (x ∷ xs) ys m = after_append xs ys (left_by m (fed_by m x.controls x.words))

taken_append : (xs ys : List Burst) (m : Monitor) → taken m (xs ++ ys) ≡ taken m xs ++ taken (after m xs) ys
taken_append [] ys m = refl
taken_append (x ∷ xs) ys m =
    let fed = fed_by m x.controls x.words in
    let next = left_by m fed in
    let rest = taken_append xs ys next in
    rw rest (one (accepts (refusal_of fed)) (taken next xs) (taken (after next xs) ys))
  where
    one : (b : Bool) (us vs : List Burst) → cond b (x ∷ (us ++ vs)) (us ++ vs) ≡ cond b (x ∷ us) us ++ vs
    one true us vs = refl
    one false us vs = refl

recorded_append : (xs ys : List Burst) → Recorded xs → Recorded ys → Recorded (xs ++ ys)
recorded_append [] ys p q = q
recorded_append (x ∷ xs) ys p q = (p.0, p.1, recorded_append xs ys p.2 q)

-- a burst of one cycle
abbrev cycle_of : (control word : ℕ) → Burst
cycle_of control word = record { controls = control ∷ []; words = word ∷ [] }

module _ (m : Monitor) (control word : ℕ) where
  -- no ground against it: the record is legal, has room for a cycle, and the byte's reserved bit is 0
  cycle_fed :
      legal m ≡ true → m.cycles < max_seen → reserved_bit control ≡ false →
      fed_by m (control ∷ []) (word ∷ []) ≡ Ok (one_more m (sample control word))
  unfolding fed_by
  cycle_fed e room bits =
      rw (keeps_none (grounds m (control ∷ []) (word ∷ [])) (refl, (le-ltb max_seen (m.cycles + 1) (omega arith), (rw e, (rw bits, tt)))))

  -- what one cycle more makes of a record that bursts lead to, bursts lead to
  pub reached_next :
      (next : Monitor) → one_more m (sample control word) ≡ next → control < 256 → word < 2 ^ 32 →
      reserved_bit control ≡ false → m.cycles < max_seen → Reached m → Reached next
  reached_next next is-next below fits bits room r =
      let fed = cycle_fed (reached_legal m r) room bits in
      let one = cycle_of control word ∷ [] in
      record {
        seq_on = r.seq_on;
        bursts = r.bursts ++ one;
        recorded = recorded_append r.bursts one r.recorded ((below, tt), (fits, tt), tt);
        none_refused = taken_append r.bursts one (fresh r.seq_on) ∙ rw (r.none_refused, r.leads, fed);
        leads = after_append r.bursts one (fresh r.seq_on) ∙ rw r.leads (ap (left_by m) fed) ∙ is-next;
      }

pub fresh_reached : (s : Bool) → Reached (fresh s)
fresh_reached s = record { seq_on = s; bursts = []; recorded = tt; none_refused = refl; leads = refl }

-- what holds of a, and below b is handed on from each number to the next, holds of b
pub later : (P : ℕ → Type 0) → (a b : ℕ) → ((n : ℕ) → n < b → P n → P (suc n)) → a ≤ b → P a → P b
later P a zero next h p = subst P (omega arith) p
later P a (suc b) next h p =
    ⊎_elim (λ l. next b (omega arith) (later P a b (λ n below. next n (omega arith)) (omega arith) p)) (λ e. subst P e p)
    (before_or_last a (suc b) (omega arith))
