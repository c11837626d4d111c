-- Any cutting: bursts one after another are one burst (`after_joined`), and from a fresh record one burst says what the checker says of
-- the whole trace (`one_burst_says`): by the record that stands for what is found. Assumes nothing.
use Prim.Native.Nat.{ℕ, zero, suc, ◌+◌, ◌<◌, ◌≤◌}
use native.Mathlib.Nat.{zero-add, add-zero, add-suc}
use native.Mathlib.Omega.{arith}
use mathlib.Core.Bool.{Bool, false}
use mathlib.Core.List.{List, [], ◌∷◌, ◌++◌}
use mathlib.Core.Logic.{◌⊎◌, inl, inr, ⊎_elim}
use mathlib.Core.Option.{Option, none, some}
use mathlib.Core.Path.{◌≡◌, refl, sym, ◌∙◌, ap}
use lib.Dec.{ltb}
use lib.ListN.{length, get_or, length-append, get_or-append}
use lib.Seq.{get_or-append-add}
use borrow.Author.Tests.{eqb-true, ltb-false, le-ltb, not-false}
use Rattle.std.specs.Prelude.{Ok, Err}
use Rattle.signals.specs.Judging.{Finding, clean, broken, count_below, finding_below, cycles_counted}
use Rattle.signals.specs.Numbers.{in_three}
use Rattle.signals.specs.Refusals.{max_cycles}
use Rattle.signals.specs.Stream.{Sample, sample, sample_at}
use Rattle.signals.specs.Tables.{first_applying}
use Rattle.signals.specs.Written.{RuleName}
use Rattle.signals.specs.declared.Refusal.{Refusal}
use Rattle.signals.proofs.Tables.{keeps_none, none_keeps}
use Rattle.stream_checker.specs.Step.{start, rules_from}
use Rattle.stream_checker.specs.Verdicts as whole
use Rattle.stream_checker.specs.Verdicts.{handshake_at, clear_at, Answer, answer_below, check_stream}
use Rattle.stream_checker.proofs.Judged.{sight_from_start}
use Rattle.monitor.specs.declared.Monitor.{Monitor}
use Rattle.monitor.specs.Bursts.{max_seen, grounds, fed_by}
use Rattle.monitor.specs.Cycle.{after_cycles}
use Rattle.monitor.specs.Record.{fresh}
use Rattle.monitor.specs.Theorems.{Burst, after, taken, joined, Says, AnyCutting, AsOneBurst}
use Rattle.monitor.proofs.Following.{Stands, stands}
use Rattle.monitor.proofs.Keeps.{fresh_legal}
use Rattle.monitor.proofs.Judged.{legal_clean}

-- cycles that are the same make the same record
cycles_same : (m : Monitor) (s t : ℕ → Sample) (n : ℕ) → ((c : ℕ) → c < n → s c ≡ t c) → after_cycles m s n ≡ after_cycles m t n
cycles_same m s t zero h = refl
cycles_same m s t (suc n) h = rw (cycles_same m s t n (λ c l. h c (omega (arith, l))), h n (omega arith))

-- cycles and more cycles are taken one after another
cycles_split : (m : Monitor) (s : ℕ → Sample) (a k : ℕ) → after_cycles m s (a + k) ≡ after_cycles (after_cycles m s a) (λ c. s (a + c)) k
cycles_split m s a zero = rw (add-zero a)
cycles_split m s a (suc k) = rw (add-suc a k, cycles_split m s a k)

-- the cycles of one burst, and behind them those of another
module _ (xs ys us vs : List ℕ) (same : length xs ≡ length us) where
  first_there : (c : ℕ) → c < length xs → sample_at (xs ++ ys) (us ++ vs) c ≡ sample_at xs us c
  first_there c h =
      let inside : c < length us = omega (arith, same, h) in
      λ i. sample (get_or-append xs ys 0 c h i) (get_or-append us vs 0 c inside i)

  later_there : (c : ℕ) → sample_at (xs ++ ys) (us ++ vs) (length xs + c) ≡ sample_at ys vs c
  later_there c =
      let far : get_or (us ++ vs) (length xs + c) 0 ≡ get_or vs c 0 = ap (λ (n : ℕ). get_or (us ++ vs) (n + c) 0) same ∙ get_or-append-add us vs c 0 in
      λ i. sample (get_or-append-add xs ys c 0 i) (far i)

  both_bursts :
      (m : Monitor) (k : ℕ) →
      after_cycles m (sample_at (xs ++ ys) (us ++ vs)) (length xs + k) ≡ after_cycles (after_cycles m (sample_at xs us) (length xs)) (sample_at ys vs) k
  both_bursts m k =
      rw (
        cycles_split m (sample_at (xs ++ ys) (us ++ vs)) (length xs) k,
        cycles_same m (sample_at (xs ++ ys) (us ++ vs)) (sample_at xs us) (length xs) first_there,
      )
      (cycles_same (after_cycles m (sample_at xs us) (length xs)) (λ c. sample_at (xs ++ ys) (us ++ vs) (length xs + c)) (sample_at ys vs) k
      (λ c l. later_there c))

-- what becomes of a burst: its cycles are taken one after another, or it is refused and the record stays
record IsTaken (m : Monitor) (b : Burst) : Type 0 where
  same : length b.controls ≡ length b.words
  fed : fed_by m b.controls b.words ≡ Ok (after_cycles m (sample_at b.controls b.words) (length b.controls))

record IsRefused (m : Monitor) (b : Burst) : Type 0 where
  why : Refusal
  fed : fed_by m b.controls b.words ≡ Err why

module _ (m : Monitor) (b : Burst) where
  by_ground : (ground : Option Refusal) → first_applying (grounds m b.controls b.words) ≡ ground → IsTaken m b ⊎ IsRefused m b
  unfolding fed_by
  by_ground none e = inl (record { same = eqb-true _ _ (not-false _ (none_keeps (grounds m b.controls b.words) e).0); fed = rw e })
  by_ground (some why) e = inr (record { why = why; fed = rw e })

  taken_or_refused : IsTaken m b ⊎ IsRefused m b
  taken_or_refused = by_ground (first_applying (grounds m b.controls b.words)) refl

-- bursts one after another are one burst of those that are taken
record IsJoined (m : Monitor) (bursts : List Burst) : Type 0 where
  same : length (joined (taken m bursts)).controls ≡ length (joined (taken m bursts)).words
  ends :
      after m bursts
      ≡ after_cycles m (sample_at (joined (taken m bursts)).controls (joined (taken m bursts)).words) (length (joined (taken m bursts)).controls)

refused_joins : (m : Monitor) (b : Burst) (bursts : List Burst) → IsRefused m b → IsJoined m bursts → IsJoined m (b ∷ bursts)
refused_joins m b bursts r rest = record { same = rw r.fed rest.same; ends = rw r.fed rest.ends }

taken_joins :
    (m : Monitor) (b : Burst) (bursts : List Burst) → IsTaken m b →
    IsJoined (after_cycles m (sample_at b.controls b.words) (length b.controls)) bursts → IsJoined m (b ∷ bursts)
taken_joins m b bursts t rest =
    let next = after_cycles m (sample_at b.controls b.words) (length b.controls) in
    let far = joined (taken next bursts) in
    record {
      same = rw t.fed (length-append b.controls far.controls ∙ both_lengths t.same rest.same ∙ sym (length-append b.words far.words));
      ends =
          rw t.fed
          (rest.ends
          ∙ sym (both_bursts b.controls far.controls b.words far.words t.same m (length far.controls))
          ∙ ap (after_cycles m (sample_at (b.controls ++ far.controls) (b.words ++ far.words))) (sym (length-append b.controls far.controls)));
    }
  where
    both_lengths : {i j k l : ℕ} → i ≡ j → k ≡ l → i + k ≡ j + l
    both_lengths e f = λ i. e i + f i

after_joined : (bursts : List Burst) (m : Monitor) → IsJoined m bursts
after_joined [] m = record { same = refl; ends = refl }
after_joined (b ∷ bursts) m =
    ⊎_elim (λ t. taken_joins m b bursts t (after_joined bursts _)) (λ r. refused_joins m b bursts r (after_joined bursts m)) (taken_or_refused m b)

-- the record that stands for what is found in a trace from a fresh one on, field by field
module _ (seq_on : Bool) (controls words : List ℕ) (n : ℕ) where
  record IsFound (f : Finding RuleName) (r : Monitor) : Type 0 where
    switch : r.seq ≡ seq_on
    seen : r.cycles ≡ n
    verdict_is : r.verdict ≡ (in_three f).verdict
    rule_is : r.rule ≡ (in_three f).rule
    cycle_is : r.cycle ≡ (in_three f).cycle
    counted : r.handshakes ≡ count_below (handshake_at (sample_at controls words)) (cycles_counted f n)
    cleared : r.clears ≡ count_below (clear_at (sample_at controls words)) (cycles_counted f n)

  is_found : (f : Finding RuleName) (r : Monitor) → Stands (fresh seq_on) controls words n f r → IsFound f r
  is_found clean r e =
      rw e (record {
        switch = refl;
        seen = zero-add n;
        verdict_is = refl;
        rule_is = refl;
        cycle_is = refl;
        counted = zero-add _;
        cleared = zero-add _;
      })
  is_found (broken name c) r e =
      rw e (record {
        switch = refl;
        seen = zero-add n;
        verdict_is = refl;
        rule_is = refl;
        cycle_is = zero-add c;
        counted = zero-add _;
        cleared = zero-add _;
      })

  -- from a fresh record on, the record stands for the whole trace
  abbrev last : Monitor
  last = after_cycles (fresh seq_on) (sample_at controls words) n

  found_in_all : IsFound (finding_below (rules_from start controls words seq_on) n) last
  found_in_all = is_found _ last (stands (fresh seq_on) controls words (legal_clean (fresh seq_on) (fresh_legal seq_on) (λ q. omega (arith, q))) n)

  one_burst_says : Says last (answer_below seq_on (sample_at controls words) n)
  one_burst_says =
      let is = found_in_all in
      rw (← sight_from_start controls words seq_on n)
      (record {
        found = finding_below (rules_from start controls words seq_on) n;
        is_found = refl;
        verdict = is.verdict_is;
        rule = is.rule_is;
        cycle = is.cycle_is;
        handshakes = is.counted;
        clears = is.cleared;
      })

pub any_cutting_lem : AnyCutting
any_cutting_lem seq_on bursts =
    let trace = joined (taken (fresh seq_on) bursts) in
    let n = length trace.controls in
    let is = found_in_all seq_on trace.controls trace.words n in
    rw (after_joined bursts (fresh seq_on)).ends
    (record { switch = is.switch; seen = is.seen; says = one_burst_says seq_on trace.controls trace.words n })

pub as_one_burst_lem : AsOneBurst
unfolding fed_by check_stream
as_one_burst_lem seq_on controls words free =
    let keeps = none_keeps (whole.grounds controls words) free in
    let short : length controls ≤ max_cycles = ltb-false _ _ keeps.1.0 in
    let room : ltb max_seen (0 + length controls) ≡ false = le-ltb max_seen (0 + length controls) (omega (arith, short)) in
    let none_given : first_applying (grounds (fresh seq_on) controls words) ≡ none =
    keeps_none (grounds (fresh seq_on) controls words) (keeps.0, (room, (rw (fresh_legal seq_on), (keeps.1.1.0, tt)))) in
    record {
      next = last seq_on controls words (length controls);
      accepted = rw none_given;
      says = rw free (one_burst_says seq_on controls words (length controls));
    }
