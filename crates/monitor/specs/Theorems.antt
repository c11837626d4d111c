-- Requests T-05 and T-09: what a record that was fed with bursts says. Three theorems; `proofs/Cutting.antt` and `proofs/Reached.antt`
-- have the proofs. Assumes nothing.
use Rattle.std.specs.Prelude.{ℕ, ◌<◌, ◌≤◌, ◌^◌, Bool, true, cond, List, [], ◌∷◌, ◌++◌, ◌↔◌, ◌≡◌, length, Ok}
use Rattle.std.proofs.Math.Option.{none}
use Rattle.signals.specs.Judging.{Finding}
use Rattle.signals.specs.Numbers.{in_three}
use Rattle.signals.specs.Refusals.{refusal_of, accepts}
use Rattle.signals.specs.Stream.{sample_at}
use Rattle.signals.specs.Tables.{first_applying}
use Rattle.signals.specs.Written.{RuleName, judged}
use Rattle.stream_checker.specs.Verdicts as whole
use Rattle.stream_checker.specs.Verdicts.{Answer, answer_below, check_stream}
use Rattle.monitor.specs.declared.Monitor.{Monitor}
use Rattle.monitor.specs.Bursts.{max_seen, fed_by, left_by}
use Rattle.monitor.specs.Record.{fresh, legal}

-- A burst as it is lent.
pub record Burst : Type 0 where
  pub controls : List ℕ
  pub words : List ℕ

-- the record after a list of bursts
abbrev pub after : Monitor → List Burst → Monitor
after m [] = m
after m (b ∷ bursts) = after (left_by m (fed_by m b.controls b.words)) bursts

-- those of them that are not refused
abbrev pub taken : Monitor → List Burst → List Burst
taken m [] = []
taken m (b ∷ bursts) =
    let fed = fed_by m b.controls b.words in
    cond (accepts (refusal_of fed)) (b ∷ taken (left_by m fed) bursts) (taken (left_by m fed) bursts)

-- bursts one after another, as one
abbrev pub joined : List Burst → Burst
joined [] = record { controls = []; words = [] }
joined (b ∷ bursts) =
    record { controls = b.controls ++ (joined bursts).controls; words = b.words ++ (joined bursts).words }

-- the record says what an answer says, in numbers
pub record Says (m : Monitor) (answer : Answer) : Type 0 where
  pub found : Finding RuleName
  pub is_found : answer.judgement.verdict ≡ judged found
  pub verdict : m.verdict ≡ (in_three found).verdict
  pub rule : m.rule ≡ (in_three found).rule
  pub cycle : m.cycle ≡ (in_three found).cycle
  pub handshakes : m.handshakes ≡ answer.judgement.handshakes
  pub clears : m.clears ≡ answer.clears

-- the record stands for a whole trace: the switch, the cycles seen, and the verdict of the checker with its counts, without its limit
pub record StandsFor (seq_on : Bool) (trace : Burst) (m : Monitor) : Type 0 where
  pub switch : m.seq ≡ seq_on
  pub seen : m.cycles ≡ length trace.controls
  pub says : Says m (answer_below seq_on (sample_at trace.controls trace.words) (length trace.controls))

-- Any cutting: whatever the bursts, the record stands for those that were not refused, one after another.
abbrev pub AnyCutting : Type 0
AnyCutting =
    (seq_on : Bool) (bursts : List Burst) → StandsFor seq_on (joined (taken (fresh seq_on) bursts)) (after (fresh seq_on) bursts)

-- every entry is below a bound
abbrev pub EachBelow : ℕ → List ℕ → Type 0
EachBelow bound [] = Unit {0}
EachBelow bound (x ∷ xs) = (x < bound) × EachBelow bound xs

-- bursts of bytes, and of words of 32 bits
abbrev pub Recorded : List Burst → Type 0
Recorded [] = Unit {0}
Recorded (b ∷ bursts) = (EachBelow 256 b.controls) × (EachBelow (2 ^ 32) b.words) × Recorded bursts

-- bursts, none of them refused, lead from a fresh record to this one
pub record Reached (m : Monitor) : Type 0 where
  pub seq_on : Bool
  pub bursts : List Burst
  pub recorded : Recorded bursts
  pub none_refused : taken (fresh seq_on) bursts ≡ bursts
  pub leads : after (fresh seq_on) bursts ≡ m

-- Refusal 6 exactly: of the records whose numbers fit their fields, the tests accept those to which bursts lead.
abbrev pub RefusedExactly : Type 0
RefusedExactly = (m : Monitor) → m.cycles ≤ max_seen → m.payload.«data» < 2 ^ 32 → (legal m ≡ true) ↔ Reached m

-- One burst: a trace that `check_stream` accepts is accepted by a fresh record, which then says the same.
pub record OneBurst (seq_on : Bool) (controls words : List ℕ) : Type 0 where
  pub next : Monitor
  pub accepted : fed_by (fresh seq_on) controls words ≡ Ok next
  pub says : Says next (check_stream controls words seq_on)

abbrev pub AsOneBurst : Type 0
AsOneBurst = (seq_on : Bool) (controls words : List ℕ) → first_applying (whole.grounds controls words) ≡ none → OneBurst seq_on controls words
