-- A report has at most 84 bytes: a verdict's cycle lies in the trace and there are no more handshakes or clears than cycles, so each
-- number of a trace's report has at most four digits, and its rule is 4, 2 or seq. Assumes nothing.
use mathlib.Core.Path.{◌≡◌, refl, ap, ◌∙◌}
use mathlib.Core.Bool.{Bool, true, false, cond}
use mathlib.Core.List.{List, []}
use mathlib.Core.Option.{Option, none, some}
use Prim.Native.Nat.{ℕ, ◌<◌, ◌≤◌}
use native.Mathlib.Omega.{arith}
use lib.ListN.{length, length-map, length-append}
use Rattle.signals.specs.Tables.{first_applying}
use Rattle.signals.specs.Judging.{Finding, clean, broken, count_below, finding_below, cycles_counted}
use Rattle.signals.specs.Stream.{sample_at, clear_cycle}
use Rattle.signals.specs.Written.{RuleName, number, seq, judged, refused, unless_refused}
use Rattle.signals.proofs.Bools.{clash}
use Rattle.signals.proofs.Tables.{first_some}
use Rattle.signals.proofs.Judging.{judges, count_le}
use Rattle.stream_checker.specs.Rules.{between, breaks_held, breaks_stable, breaks_seq, in_order, rules}
use Rattle.stream_checker.specs.Verdicts.{grounds, handshake_at, clear_at, judged_below, answer, check_stream}
use Rattle.trace_text.specs.Digits.{decimal}
use Rattle.trace_text.specs.Form as form
use Rattle.trace_text.specs.Form.{max_announced, Trace, Reading, reading}
use Rattle.trace_text.proofs.RoundTrip.{means}
use Rattle.bench_text.specs.Report.{max_report, rule_bytes, verdict_lines, lines, report_on, report_of}
use Rattle.bench_text.specs.Room.{ReportsFit}
use Rattle.bench_text.proofs.Digits.{decimal_short, decimal_four, decimal_zero}

-- a rule of the stream's is written in at most three bytes; where the cycle is a clear cycle there is none
rule_short :
    (cleared seq_on held stable sequence : Bool) (r : RuleName) → first_applying (cond cleared [] (in_order seq_on held stable sequence)) ≡ some r →
    length (rule_bytes r) ≤ 3
unfolding decimal
rule_short true seq_on held stable sequence r e = absurd (clash cc)
rule_short false seq_on true stable sequence r e = let q : number 4 ≡ r = cc in rw (← q) (omega arith)
rule_short false seq_on false true sequence r e = let q : number 2 ≡ r = cc in rw (← q) (omega arith)
rule_short false true false false true r e = let q : seq ≡ r = cc in rw (← q) (omega arith)
rule_short false true false false false r e = absurd (clash cc)
rule_short false false false false sequence r e = absurd (clash cc)

-- a count of cycles that were announced has at most four digits
count_short : (has : ℕ → Bool) (n : ℕ) → n ≤ max_announced → length (decimal (count_below has n)) ≤ 4
count_short has n few = decimal_four (count_below has n) (omega (arith, count_le has n, few))

refused_short : (cycles why : ℕ) → length (verdict_lines cycles 0 0 (refused why)) ≤ max_report
refused_short cycles why =
    let none = decimal_zero in
    let rule = decimal_short why in
    simp length-append (omega arith)

module _ (controls words : List ℕ) (seq_on : Bool) (few : length controls ≤ max_announced) where
  abbrev n : ℕ
  n = length controls

  judged_short :
      (f : Finding RuleName) → finding_below (rules seq_on (sample_at controls words)) n ≡ f →
      length
      (verdict_lines n
      (count_below (handshake_at (sample_at controls words)) (cycles_counted f n))
      (count_below (clear_at (sample_at controls words)) (cycles_counted f n))
      (judged f))
      ≤ max_report
  judged_short clean e =
      let handshakes = count_short (handshake_at (sample_at controls words)) n (omega arith) in
      let clears = count_short (clear_at (sample_at controls words)) n (omega arith) in
      let cycles = decimal_four n (omega arith) in
      let at = decimal_zero in
      simp length-append (omega arith)
  judged_short (broken r c) e =
      let trace = sample_at controls words in
      let breach = ((judges (rules seq_on trace) n).broken_exactly r c).0 e in
      let inside : c < n = breach.inside in
      let handshakes = count_short (handshake_at trace) c (omega arith) in
      let clears = count_short (clear_at trace) c (omega arith) in
      let cycles = decimal_four n (omega arith) in
      let at = decimal_four c (omega arith) in
      let rule =
      rule_short (clear_cycle (trace c)) seq_on (between breaks_held trace c) (between breaks_stable trace c) (breaks_seq trace c) r
      (first_some (rules seq_on trace c) r breach.rule) in
      simp length-append (omega arith)

  checked_short : length (lines n (check_stream controls words seq_on)) ≤ max_report
  unfolding check_stream
  checked_short = of (first_applying (grounds controls words))
    where
      of : (refusal : Option ℕ) → length (lines n (answer (sample_at controls words) n (unless_refused refusal (judged_below seq_on (sample_at controls words) n)))) ≤ max_report
      of none = judged_short (finding_below (rules seq_on (sample_at controls words)) n) refl
      of (some why) = refused_short n why

pub reports_fit_lem : ReportsFit
unfolding report_of
reports_fit_lem text = of (reading text) refl
  where
    of : (read : Reading) → reading text ≡ read → length (report_on read) ≤ max_report
    of (form.refused why) e = refused_short 0 why
    of (form.trace t) e =
        let f = ((means text).trace_exactly t).0 e in
        let long : length t.controls ≡ length f.entries = ap (λ (s : Trace). length s.controls) f.trace_is ∙ length-map f.entries (λ e. e.control) in
        let within : length t.controls ≤ max_announced = (let h = f.few in omega arith) in
        checked_short t.controls t.words t.seq within
