-- Document 01, "Stream rules", "Memory rules" and "Refusal numbers": what a checker answers, in the paper's numbers and names.
-- Assumes nothing.
use Rattle.std.specs.Prelude as std
use Rattle.std.specs.Prelude.{ℕ, ◌<◌, Bool, List, ◌↔◌, ◌≡◌, None, Some}
use Rattle.std.proofs.Math.Option.{Option, none, some}
use Rattle.signals.specs.Tables.{Row, NoneIn, FirstIn}
use Rattle.signals.specs.Judging.{Finding, clean, broken, count_below, finding_below, cycles_counted, FirstBreach}
use Rattle.signals.specs.declared.Breach.{Breach}

-- a rule has a number, or one of two names
pub data RuleName : Type 0 where
  number : ℕ → RuleName
  seq : RuleName
  align : RuleName

-- what is found, by a checker's names for its rules: clean where there is no breach
abbrev pub finding_by : {R : Type 0} → (name : R → RuleName) → std.Option (Breach R) → Finding RuleName
finding_by name None = clean
finding_by name (Some breach) = broken (name breach.rule) breach.cycle

-- a trace is judged clean or broken, or is refused with a number
pub data Written : Type 0 where
  judged : Finding RuleName → Written
  refused : ℕ → Written

-- A verdict, and beside it the handshake count.
pub record Judgement : Type 0 where
  pub verdict : Written
  pub handshakes : ℕ

-- the judgement of what the code found, by a checker's names for its rules
abbrev pub judgement_by : {R : Type 0} → (name : R → RuleName) → std.Option (Breach R) → (handshakes : ℕ) → Judgement
judgement_by name breach handshakes = record { verdict = judged (finding_by name breach); handshakes = handshakes }

-- a trace that is refused has no verdict and count 0
abbrev pub refused_with : ℕ → Judgement
refused_with n = record { verdict = refused n; handshakes = 0 }

-- the verdict on the first n cycles by these rules, with the handshakes before the broken cycle, or in all cycles when clean
abbrev pub judgement : (rules : ℕ → List (Row RuleName)) → (handshake : ℕ → Bool) → ℕ → Judgement
judgement rules handshake n =
    record {
      verdict = judged (finding_below rules n);
      handshakes = count_below handshake (cycles_counted (finding_below rules n) n);
    }

-- refused, where a refusal is given
abbrev pub unless_refused : (refusal : Option ℕ) → Judgement → Judgement
unless_refused none j = j
unless_refused (some n) j = refused_with n

-- What the answer means: refused, by the first ground that applies; else clean or broken, by the rules cycle by cycle.
pub record Meaning (grounds : List (Row ℕ)) (rules : ℕ → List (Row RuleName)) (handshake : ℕ → Bool) (n : ℕ) (answer : Judgement) : Type 0 where
  pub refused_exactly_lem : (number : ℕ) → (answer.verdict ≡ refused number) ↔ FirstIn grounds number
  pub clean_exactly :
      (answer.verdict ≡ judged clean) ↔ (NoneIn grounds × ((c : ℕ) → c < n → NoneIn (rules c)))
  pub broken_exactly : (rule : RuleName) (c : ℕ) →
      (answer.verdict ≡ judged (broken rule c)) ↔ (NoneIn grounds × FirstBreach rules n rule c)
  -- the handshakes in all cycles, in those before the broken one, or none
  pub clean_count : answer.verdict ≡ judged clean → answer.handshakes ≡ count_below handshake n
  pub broken_count : (rule : RuleName) (c : ℕ) → answer.verdict ≡ judged (broken rule c) → answer.handshakes ≡ count_below handshake c
  pub refused_count : (number : ℕ) → answer.verdict ≡ refused number → answer.handshakes ≡ 0
