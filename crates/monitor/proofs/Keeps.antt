-- Bursts keep a record legal: a cycle that passes leaves a clean record clean, a breach breaks it by what the rule says of the
-- record before, and a broken one only counts its cycles. Assumes nothing.
use Prim.Native.Nat.{ℕ, zero, suc, ◌+◌, ◌<◌, ◌≤◌}
use native.Mathlib.Omega.{arith}
use mathlib.Core.Bool.{Bool, true, false, cond, not, ◌&&◌, false≢true}
use mathlib.Core.List.{List, [], ◌∷◌}
use mathlib.Core.Logic.{◌⊎◌, inl, inr, ⊎_elim}
use mathlib.Core.Option.{Option, none, some}
use mathlib.Core.Path.{◌≡◌, refl, sym, subst}
use lib.ListN.{length, get_or}
use borrow.Author.Tests.{eq-eqb}
use Rattle.std.specs.Prelude.{Some, None}
use Rattle.signals.specs.Payloads.{zeros, max_strb}
use Rattle.signals.specs.Stream.{Sample, sample_at, clear_cycle, handshake}
use Rattle.signals.specs.Tables.{Row, first_applying}
use Rattle.signals.specs.Written.{RuleName, number, seq}
use Rattle.signals.specs.declared.Payload.{Payload}
use Rattle.signals.specs.declared.Refusal.{Refusal}
use Rattle.signals.proofs.Bools.{both, clash}
use Rattle.stream_checker.specs.Rules.{stalled, breaks_held, breaks_stable, counters, counter, after_counter, carries_counter, in_order, unless_clear}
use Rattle.stream_checker.specs.Step.{not_due}
use Rattle.monitor.specs.declared.Monitor.{Monitor}
use Rattle.monitor.specs.Bursts.{grounds, next_unless, fed_by, left_by}
use Rattle.monitor.specs.Cycle.{last_seen, due_of, rules_next, passed, broken_by, seen_only, judged_next, one_more, after_cycles}
use Rattle.monitor.specs.Record.{fresh, legal}
use Rattle.monitor.specs.Theorems.{Burst, after, EachBelow, Recorded, Reached}
use Rattle.monitor.proofs.Legal.{Clean, By, Broken, counts_among, legal_says, clean_legal, broken_legal}

-- a fresh record is legal
pub fresh_legal : (s : Bool) → legal (fresh s) ≡ true
fresh_legal true = refl
fresh_legal false = refl

-- which rule is the first that is broken, and by what
data FirstBroken (seq_on held stable sequence : Bool) : RuleName → Type 0 where
  is_held : held ≡ true → FirstBroken seq_on held stable sequence (number 4)
  is_stable : stable ≡ true → FirstBroken seq_on held stable sequence (number 2)
  is_seq : seq_on ≡ true → sequence ≡ true → FirstBroken seq_on held stable sequence seq

-- a rule that is broken is broken by its table: in a clear cycle there is none
judged_there : (now : Sample) (rows : List (Row RuleName)) (r : RuleName) → first_applying (unless_clear now rows) ≡ some r → first_applying rows ≡ some r
judged_there now rows r e = there (clear_cycle now) e
  where
    there : (clear : Bool) → first_applying (cond clear [] rows) ≡ some r → first_applying rows ≡ some r
    there true q = absurd (clash cc)
    there false q = q

-- what tells that a rule is the first
first_broken :
    (seq_on held stable sequence : Bool) (r : RuleName) →
    first_applying (in_order seq_on held stable sequence) ≡ some r → FirstBroken seq_on held stable sequence r
first_broken seq_on true stable sequence r e = let same : number 4 ≡ r = cc in subst (FirstBroken seq_on true stable sequence) same (is_held refl)
first_broken seq_on false true sequence r e = let same : number 2 ≡ r = cc in subst (FirstBroken seq_on false true sequence) same (is_stable refl)
first_broken true false false true r e = let same : seq ≡ r = cc in subst (FirstBroken true false false true) same (is_seq refl refl)
first_broken true false false false r e = absurd (clash cc)
first_broken false false false sequence r e = absurd (clash cc)

-- what is kept of a payload has a legal strobe
shown_strb : (b : Bool) (p : Payload) → p.strb ≤ max_strb → (cond b p zeros).strb ≤ max_strb
shown_strb true p h = h
shown_strb false p h = omega arith

-- the counter that is due is in its range, whether it is dropped, set or stays
due_below : (clear carries : Bool) (n due : ℕ) → due < counters → cond clear 0 (cond carries (after_counter n) due) < counters
due_below true carries n due h = omega arith
due_below false true n due h = omega arith
due_below false false n due h = h

-- where no counter is kept, none is due
due_with :
    (clear carries counted : Bool) (n due : ℕ) →
    (counted ≡ false → due ≡ 0) → cond clear false (cond carries true counted) ≡ false → cond clear 0 (cond carries n due) ≡ 0
due_with true carries counted n due h e = refl
due_with false true counted n due h e = absurd (false≢true (sym e))
due_with false false counted n due h e = h e

-- a counter that is kept came now or before
now_or_before : (clear carries counted : Bool) → cond clear false (cond carries true counted) ≡ true → (carries ≡ true) ⊎ (counted ≡ true)
now_or_before true carries counted e = absurd (false≢true e)
now_or_before false true counted e = inl refl
now_or_before false false counted e = inr e

-- a record without a counter stays so where none comes, in a clear cycle or another
none_kept : (clear counted : Bool) → counted ≡ false → cond clear false counted ≡ false
none_kept true counted e = refl
none_kept false counted e = e

-- what a cycle adds to both counts together: if it stalled nothing, and else at most one
abbrev added : (clear valid ready : Bool) → ℕ
added clear valid ready = cond (not clear && (valid && ready)) 1 0 + cond clear 1 0

stall_adds_none : (clear valid ready : Bool) → not clear && (valid && not ready) ≡ true → added clear valid ready ≡ 0
stall_adds_none true valid ready e = absurd (false≢true e)
stall_adds_none false true true e = absurd (false≢true e)
stall_adds_none false true false e = refl
stall_adds_none false false ready e = refl

adds_at_most_one : (clear valid ready : Bool) → added clear valid ready ≤ 1
adds_at_most_one true valid ready = omega arith
adds_at_most_one false true true = omega arith
adds_at_most_one false true false = omega arith
adds_at_most_one false false ready = omega arith

-- only where a counter was carried is another not due
due_counted : (counted : Bool) (due n : ℕ) → not_due (cond counted (Some due) None) n ≡ true → counted ≡ true
due_counted true due n e = refl
due_counted false due n e = e

module _ (m : Monitor) where
  -- the first rule that the next cycle breaks
  abbrev BreachNext : Sample → RuleName → Type 0
  BreachNext now = FirstBroken m.seq (breaks_held (last_seen m) now) (breaks_stable (last_seen m) now) (carries_counter now && not_due (due_of m) (counter now))

  -- only after a stalled cycle is there a duty
  was_stalled : (duty : Bool) → m.stalled && true && duty ≡ true → m.stalled ≡ true
  was_stalled duty e = (both m.stalled true (both (m.stalled && true) duty e).0).0

  -- which rules a clean record allows to be broken
  broken_by_lem : Clean m → (now : Sample) (r : RuleName) → BreachNext now r → By (broken_by m r)
  broken_by_lem c now r (is_held e) = inl (record { rule = inl refl; before = c.stalled_among (was_stalled _ e) })
  broken_by_lem c now r (is_stable e) = inl (record { rule = inr refl; before = c.stalled_among (was_stalled _ e) })
  broken_by_lem c now r (is_seq on e) =
      let counted = due_counted m.counted m.due (counter now) (both (carries_counter now) _ e).1 in
      inr (record { rule = refl; switched = on; carried = c.carried counted; before = counts_among m c })

  -- a breach leaves a broken record
  breach_broken : Clean m → (now : Sample) (r : RuleName) → BreachNext now r → Broken (broken_by m r)
  breach_broken c now r b =
      record {
        verdict = refl;
        seen = omega arith;
        unstalled = refl;
        uncounted = refl;
        payload = refl;
        due = refl;
        by = broken_by_lem c now r b;
      }

  -- a broken record stays so
  stays_broken : Broken m → Broken (seen_only m)
  stays_broken b =
      record {
        verdict = b.verdict;
        seen = omega (arith, b.seen);
        unstalled = b.unstalled;
        uncounted = b.uncounted;
        payload = b.payload;
        due = b.due;
        by = b.by;
      }

  -- a cycle with no breach leaves a clean record clean
  passed_clean : Clean m → (now : Sample) → now.payload.strb ≤ max_strb → Clean (passed m now)
  passed_clean c now h =
      record {
        verdict = refl;
        rule = refl;
        cycle = refl;
        strb = shown_strb (stalled now) now.payload h;
        due = due_below (clear_cycle now) (m.seq && carries_counter now) (counter now) m.due c.due;
        unstalled = λ e. rw e;
        uncounted = due_with (clear_cycle now) (m.seq && carries_counter now) m.counted _ m.due c.uncounted;
        unswitched = λ e. rw e (none_kept (clear_cycle now) m.counted (c.unswitched e));
        stalled_among = λ e. omega (arith, counts_among m c, stall_adds_none now.clear now.valid now.ready e);
        among = λ e. omega (arith, counts_among m c, adds_at_most_one now.clear now.valid now.ready);
        carried = λ e.
            ⊎_elim carries (λ t. let f = c.carried t in omega arith) (now_or_before (clear_cycle now) (m.seq && carries_counter now) m.counted e);
      }
    where
      carries : m.seq && carries_counter now ≡ true → 0 < m.handshakes + cond (handshake now) 1 0
      carries e = rw (both (handshake now) _ (both m.seq _ e).1).0 (omega arith)

  -- the next cycle of a clean record is judged, and that of a broken one only seen
  next_clean : m.verdict ≡ 1 → (now : Sample) → one_more m now ≡ judged_next m now (first_applying (rules_next m now))
  next_clean e now = rw (eq-eqb m.verdict 1 e)

  next_broken : m.verdict ≡ 2 → (now : Sample) → one_more m now ≡ seen_only m
  next_broken e now = rw e

  -- judged, a record is clean or broken
  judged_legal :
      Clean m → (now : Sample) → now.payload.strb ≤ max_strb →
      (breach : Option RuleName) → first_applying (rules_next m now) ≡ breach → legal (judged_next m now breach) ≡ true
  judged_legal c now h none e = clean_legal _ (passed_clean c now h)
  judged_legal c now h (some r) e = broken_legal _ (breach_broken c now r (first_broken _ _ _ _ r (judged_there now _ r e)))

  -- one more cycle keeps a record legal
  next_legal : (now : Sample) → now.payload.strb ≤ max_strb → legal m ≡ true → legal (one_more m now) ≡ true
  next_legal now h e =
      ⊎_elim (λ c. rw (next_clean c.verdict now) (judged_legal c now h _ refl))
      (λ b. rw (next_broken b.verdict now) (broken_legal _ (stays_broken b))) (legal_says m e)

-- an entry, or the 0 past the end, is below the bound of all
entry_below : (bound : ℕ) → 0 < bound → (xs : List ℕ) → EachBelow bound xs → (i : ℕ) → get_or xs i 0 < bound
entry_below bound h [] b i = h
entry_below bound h (x ∷ xs) b zero = b.0
entry_below bound h (x ∷ xs) b (suc i) = entry_below bound h xs b.1 i

-- so do the cycles of a burst
cycles_legal :
    (controls words : List ℕ) → EachBelow 256 controls →
    (n : ℕ) (m : Monitor) → legal m ≡ true → legal (after_cycles m (sample_at controls words) n) ≡ true
cycles_legal controls words b zero m e = e
cycles_legal controls words b (suc n) m e =
    let control = entry_below 256 (omega arith) controls b n in
    next_legal (after_cycles m (sample_at controls words) n) (sample_at controls words n) (omega arith) (cycles_legal controls words b n m e)

-- the record before and the next are legal, so the one of them that is kept is
unless_legal :
    (ground : Option Refusal) (before next : Monitor) →
    legal before ≡ true → legal next ≡ true → legal (left_by before (next_unless ground next)) ≡ true
unless_legal none before next p q = q
unless_legal (some why) before next p q = p

-- so does a burst, refused or not
fed_legal : (m : Monitor) (controls words : List ℕ) → EachBelow 256 controls → legal m ≡ true → legal (left_by m (fed_by m controls words)) ≡ true
unfolding fed_by
fed_legal m controls words b e = unless_legal (first_applying (grounds m controls words)) m _ e (cycles_legal controls words b (length controls) m e)

-- and so do bursts
after_legal : (bursts : List Burst) (m : Monitor) → Recorded bursts → legal m ≡ true → legal (after m bursts) ≡ true
after_legal [] m r e = e
after_legal (b ∷ bursts) m r e = after_legal bursts _ r.2 (fed_legal m b.controls b.words r.0 e)

-- what bursts lead to is legal
pub reached_legal : (m : Monitor) → Reached m → legal m ≡ true
reached_legal m r = rw r.leads at (after_legal r.bursts (fresh r.seq_on) r.recorded (fresh_legal r.seq_on))
