-- Document 01, "Bench text", with request T-09: the report of a text, and what `report` promises. Assumes nothing.
use Rattle.std.specs.Prelude.{ℕ, cond, List, [], ◌∷◌, ◌++◌, ◌≡◌, length, drop, ltb, Result}
use Rattle.std.specs.Result.{result_unwrap_or}
use Rattle.signals.specs.Tables.{Row, ◌⇐◌, first_applying}
use Rattle.signals.specs.Refusals.{refusal_of, accepts}
use Rattle.signals.specs.declared.Refusal.{Refusal}
use Rattle.signals.specs.Judging.{clean, broken}
use Rattle.signals.specs.Written.{RuleName, number, seq, align, Written, judged, refused}
use Rattle.stream_checker.specs.Verdicts.{Answer, check_stream}
use Rattle.trace_text.specs.Digits.{bytes, decimal}
use Rattle.trace_text.specs.Form as form
use Rattle.trace_text.specs.Form.{Reading, reading}

abbrev pub rule_bytes : RuleName → List ℕ
rule_bytes (number n) = decimal n
rule_bytes seq = bytes "seq"
rule_bytes align = bytes "align"

abbrev pub line : (key value : List ℕ) → List ℕ
line key value = key ++ value ++ bytes "\n"

-- the seven lines
abbrev pub seven_lines : (kind : List ℕ) (cycles : ℕ) (verdict rule : List ℕ) (at handshakes clears : ℕ) → List ℕ
seven_lines kind cycles verdict rule at handshakes clears =
    line (bytes "kind=") kind
    ++ line (bytes "cycles=") (decimal cycles)
    ++ line (bytes "verdict=") verdict
    ++ line (bytes "rule=") rule
    ++ line (bytes "at=") (decimal at)
    ++ line (bytes "handshakes=") (decimal handshakes)
    ++ line (bytes "clears=") (decimal clears)

-- of a verdict on so many announced cycles, with the handshakes and the clear cycles; a refused text has kind none and no cycles
abbrev pub verdict_lines : (cycles handshakes clears : ℕ) → Written → List ℕ
verdict_lines cycles handshakes clears (judged clean) =
    seven_lines (bytes "stream") cycles (bytes "clean") (bytes "0") 0 handshakes clears
verdict_lines cycles handshakes clears (judged (broken rule c)) =
    seven_lines (bytes "stream") cycles (bytes "broken") (rule_bytes rule) c handshakes clears
verdict_lines cycles handshakes clears (refused n) =
    seven_lines (bytes "none") 0 (bytes "refused") (decimal n) 0 handshakes clears

abbrev pub lines : (cycles : ℕ) → Answer → List ℕ
lines cycles a = verdict_lines cycles a.judgement.handshakes a.clears a.judgement.verdict

-- how many bytes of a text decide any answer: one more than the longest legal text has
abbrev pub max_text : ℕ
max_text = 53281

-- the most bytes that a report has
abbrev pub max_report : ℕ
max_report = 84

-- the report of what was read: a trace goes to the stream checker
abbrev pub report_on : Reading → List ℕ
report_on (form.refused n) = verdict_lines 0 0 0 (refused n)
report_on (form.trace t) = lines (length t.controls) (check_stream t.controls t.words t.seq)

unfoldable pub report_of : (text : List ℕ) → List ℕ
report_of text = report_on (reading text)

-- the ground for refusing an output: it has less room than what is given needs
abbrev pub out_grounds : (given out : List ℕ) → List (Row ℕ)
out_grounds given out = 7 ⇐ ltb (length out) (length given) ∷ []

-- What is given stands at the start of the output, and what lies beyond stays; an output that is refused is left as it was.
pub record Delivers (given out : List ℕ) (r : Result ℕ Refusal) (exit : List ℕ) : Type 0 where
  pub refusal : refusal_of r ≡ first_applying (out_grounds given out)
  pub count : result_unwrap_or r 0 ≡ cond (accepts (first_applying (out_grounds given out))) (length given) 0
  pub writes : exit ≡ cond (accepts (first_applying (out_grounds given out))) (given ++ drop (length given) out) out

-- what `report` promises of any text and any output
abbrev pub Reports : (text out : List ℕ) (r : Result ℕ Refusal) (exit : List ℕ) → Type 0
Reports text out r exit = Delivers (report_of text) out r exit
