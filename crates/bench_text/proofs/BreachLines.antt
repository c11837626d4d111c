-- The lines of a breach are those of its rule and its cycle. Assumes nothing.
use Prim.Native.Nat.{ℕ}
use mathlib.Core.List.{List}
use mathlib.Core.Path.{◌≡◌}
use Rattle.std.specs.Prelude.{Some, Ok}
use Rattle.signals.specs.declared.Breach.{Breach}
use Rattle.stream_checker.specs.declared.Rule.{Rule}
use Rattle.stream_checker.specs.declared.Checked.{Checked}
use Rattle.stream_checker.specs.Written.{written, rule_name}
use Rattle.trace_text.specs.Digits.{bytes}
use Rattle.bench_text.specs.Report.{seven_lines, lines, rule_bytes}

pub breach_lines :
    (cycles : ℕ) (checked : Checked) (breach : Breach Rule) (rule : List ℕ) (at : ℕ) → checked.breach ≡ Some breach
    → rule ≡ rule_bytes (rule_name breach.rule) → at ≡ breach.cycle
    → seven_lines (bytes "stream") cycles (bytes "broken") rule at checked.handshakes checked.clears ≡ lines cycles (written (Ok checked))
breach_lines cycles checked breach rule at is r a = rw (is, r, a) (cc)
