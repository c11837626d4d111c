-- What a legal record is: clean or broken, each as facts. The tests of refusal 6 pass exactly there, test by test (`Tells`).
-- Assumes nothing.
use Prim.Native.Nat.{ℕ, ◌<◌, ◌≤◌}
use native.Mathlib.Omega.{arith}
use mathlib.Core.Bool.{Bool, true, false}
use mathlib.Core.Logic.{◌⊎◌, inl, inr, ⊎_elim}
use mathlib.Core.Path.{◌≡◌, ap}
use Rattle.signals.specs.Payloads.{zeros, max_strb}
use Rattle.signals.specs.declared.Payload.{Payload}
use Rattle.signals.proofs.Bools.{either}
use Rattle.stream_checker.specs.Rules.{counters}
use Rattle.monitor.specs.declared.Monitor.{Monitor}
use Rattle.monitor.specs.Record.{in_range, in_place, handshakes_and_clears, clean_form, broken_form, legal}
use Rattle.monitor.proofs.Tells.{Tells, tells_eq, tells_le, tells_lt, tells_on, tells_off, tells_and, tells_or, tells_by, tells_unless, tells_where}

-- A clean record. Numbers are in their ranges, and nothing is kept beside a flag that is off; the handshakes and the clear
-- cycles are together among the cycles, of which a stalled one is neither; and a counter came with a handshake.
pub record Clean (m : Monitor) : Type 0 where
  pub verdict : m.verdict ≡ 1
  pub rule : m.rule ≡ 0
  pub cycle : m.cycle ≡ 0
  pub strb : m.payload.strb ≤ max_strb
  pub due : m.due < counters
  pub unstalled : m.stalled ≡ false → m.payload ≡ zeros
  pub uncounted : m.counted ≡ false → m.due ≡ 0
  pub unswitched : m.seq ≡ false → m.counted ≡ false
  pub stalled_among : m.stalled ≡ true → handshakes_and_clears m < m.cycles
  pub among : m.stalled ≡ false → handshakes_and_clears m ≤ m.cycles
  pub carried : m.counted ≡ true → 0 < m.handshakes

-- both counts are together among the cycles, stalled or not
pub counts_among : (m : Monitor) → Clean m → handshakes_and_clears m ≤ m.cycles
counts_among m c = ⊎_elim (λ t. let h = c.stalled_among t in omega arith) c.among (either m.stalled)

-- broken by rule 4 or 2, after a stalled cycle; both counts are given together
pub record AfterStall (number cycle counts : ℕ) : Type 0 where
  pub rule : (number ≡ 4) ⊎ (number ≡ 2)
  pub before : counts < cycle

-- broken by rule seq, after a counter
pub record BySeq (seq_on : Bool) (number cycle handshakes counts : ℕ) : Type 0 where
  pub rule : number ≡ 100
  pub switched : seq_on ≡ true
  pub carried : 0 < handshakes
  pub before : counts ≤ cycle

-- by one of the two
abbrev pub By : Monitor → Type 0
By m = AfterStall m.rule m.cycle (handshakes_and_clears m) ⊎ BySeq m.seq m.rule m.cycle m.handshakes (handshakes_and_clears m)

-- a broken record
pub record Broken (m : Monitor) : Type 0 where
  pub verdict : m.verdict ≡ 2
  pub seen : m.cycle < m.cycles
  pub unstalled : m.stalled ≡ false
  pub uncounted : m.counted ≡ false
  pub payload : m.payload ≡ zeros
  pub due : m.due ≡ 0
  pub by : By m

-- the same as the tests are written
abbrev InRange : Monitor → Type 0
InRange m = (m.payload.strb ≤ max_strb) × (m.due < counters)

abbrev InPlace : Monitor → Type 0
InPlace m =
    (m.stalled ≡ false → (m.payload.«data» ≡ 0) × (m.payload.strb ≡ 0)) × ((m.counted ≡ false → m.due ≡ 0) × (m.seq ≡ false → m.counted ≡ false))

abbrev CleanForm : Monitor → Type 0
CleanForm m =
    ((m.rule ≡ 0) × (m.cycle ≡ 0))
    × (((m.stalled ≡ true → handshakes_and_clears m < m.cycles) × (m.stalled ≡ false → handshakes_and_clears m ≤ m.cycles))
    × (m.counted ≡ true → 0 < m.handshakes))

abbrev StallForm : Monitor → Type 0
StallForm m = ((m.rule ≡ 4) ⊎ (m.rule ≡ 2)) × (handshakes_and_clears m < m.cycle)

abbrev SeqForm : Monitor → Type 0
SeqForm m = (m.rule ≡ 100) × ((m.seq ≡ true) × ((0 < m.handshakes) × (handshakes_and_clears m ≤ m.cycle)))

abbrev BrokenForm : Monitor → Type 0
BrokenForm m = ((m.cycle < m.cycles) × ((m.stalled ≡ false) × (m.counted ≡ false))) × (StallForm m ⊎ SeqForm m)

abbrev LegalForm : Monitor → Type 0
LegalForm m = (InRange m × InPlace m) × (((m.verdict ≡ 1) × CleanForm m) ⊎ ((m.verdict ≡ 2) × BrokenForm m))

module _ (m : Monitor) where
  range_tells : Tells (in_range m) (InRange m)
  range_tells = tells_and (tells_le _ _) (tells_lt _ _)

  place_tells : Tells (in_place m) (InPlace m)
  place_tells =
      tells_and (tells_unless (tells_and (tells_eq _ _) (tells_eq _ _)) m.stalled)
      (tells_and (tells_unless (tells_eq _ _) m.counted) (tells_unless (tells_off m.counted) m.seq))

  clean_tells : Tells (clean_form m) (CleanForm m)
  clean_tells =
      tells_and (tells_and (tells_eq _ _) (tells_eq _ _))
      (tells_and (tells_by (tells_lt _ _) (tells_le _ _) m.stalled) (tells_where (tells_lt _ _) m.counted))

  broken_tells : Tells (broken_form m) (BrokenForm m)
  broken_tells =
      tells_and (tells_and (tells_lt _ _) (tells_and (tells_off m.stalled) (tells_off m.counted)))
      (tells_or (tells_and (tells_or (tells_eq _ _) (tells_eq _ _)) (tells_lt _ _))
      (tells_and (tells_eq _ _) (tells_and (tells_on m.seq) (tells_and (tells_lt _ _) (tells_le _ _)))))

  legal_tells : Tells (legal m) (LegalForm m)
  legal_tells = tells_and (tells_and range_tells place_tells) (tells_or (tells_and (tells_eq _ _) clean_tells) (tells_and (tells_eq _ _) broken_tells))

  -- zeros in both fields are the payload of zeros
  all_zeros : (m.payload.«data» ≡ 0) × (m.payload.strb ≡ 0) → m.payload ≡ zeros
  all_zeros z = λ i. record { «data» = z.0 i; strb = z.1 i }

  both_zero : m.payload ≡ zeros → (m.payload.«data» ≡ 0) × (m.payload.strb ≡ 0)
  both_zero e = (ap (λ (p : Payload). p.«data») e, ap (λ (p : Payload). p.strb) e)

  -- a legal record is clean or broken
  pub legal_says : legal m ≡ true → Clean m ⊎ Broken m
  legal_says e = let f = legal_tells.0 e in ⊎_elim (λ c. inl (clean f.0 c)) (λ b. inr (broken f.0 b)) f.1
    where
      clean : InRange m × InPlace m → (m.verdict ≡ 1) × CleanForm m → Clean m
      clean f c =
          record {
            verdict = c.0;
            rule = c.1.0.0;
            cycle = c.1.0.1;
            strb = f.0.0;
            due = f.0.1;
            unstalled = λ s. all_zeros (f.1.0 s);
            uncounted = f.1.1.0;
            unswitched = f.1.1.1;
            stalled_among = c.1.1.0.0;
            among = c.1.1.0.1;
            carried = c.1.1.1;
          }

      by : StallForm m ⊎ SeqForm m → By m
      by w =
          ⊎_elim (λ s. inl (record { rule = s.0; before = s.1 }))
          (λ s. inr (record { rule = s.0; switched = s.1.0; carried = s.1.1.0; before = s.1.1.1 })) w

      broken : InRange m × InPlace m → (m.verdict ≡ 2) × BrokenForm m → Broken m
      broken f b =
          record {
            verdict = b.0;
            seen = b.1.0.0;
            unstalled = b.1.0.1.0;
            uncounted = b.1.0.1.1;
            payload = all_zeros (f.1.0 b.1.0.1.0);
            due = f.1.1.0 b.1.0.1.1;
            by = by b.1.1;
          }

  -- a clean record is legal
  pub clean_legal : Clean m → legal m ≡ true
  clean_legal c =
      legal_tells.1 (
        ((c.strb, c.due), (λ s. both_zero (c.unstalled s), (c.uncounted, c.unswitched))),
        inl (c.verdict, ((c.rule, c.cycle), ((c.stalled_among, c.among), c.carried))),
      )

  -- a broken record is legal
  pub broken_legal : Broken m → legal m ≡ true
  broken_legal b =
      let z = both_zero b.payload in
      let strb : m.payload.strb ≤ max_strb = omega (arith, z.1) in
      let due : m.due < counters = omega (arith, b.due) in
      legal_tells.1
      (((strb, due), (λ s. z, (λ s. b.due, λ s. b.uncounted))), inr (b.verdict, ((b.seen, (b.unstalled, b.uncounted)), by)))
    where
      by : StallForm m ⊎ SeqForm m
      by = ⊎_elim (λ s. inl (s.rule, s.before)) (λ s. inr (s.rule, (s.switched, (s.carried, s.before)))) b.by
