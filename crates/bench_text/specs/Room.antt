-- What room a program needs: how much of a text decides its answer, and how long a report is. `proofs/DecidedEarly.antt` and
-- `proofs/NumbersFit.antt` have the proofs. Assumes nothing.
use Rattle.std.specs.Prelude.{ℕ, ◌≤◌, List, ◌≡◌, length, take}
use Rattle.trace_text.specs.Form.{reading}
use Rattle.bench_text.specs.Report.{max_text, max_report, report_of}

-- a text reads as its first 53,281 bytes do
abbrev pub DecidedEarly : Type 0
DecidedEarly = (text : List ℕ) → reading (take max_text text) ≡ reading text

-- every report fits the room that `bench` has for it
abbrev pub ReportsFit : Type 0
ReportsFit = (text : List ℕ) → length (report_of text) ≤ max_report
