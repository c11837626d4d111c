-- A text reads as its first 53,281 bytes do. A text of the form has at most 53,280, so a longer one and its first 53,281 bytes
-- are both refused; and with 3 both or none, since a header has at most 33. Assumes nothing.
use mathlib.Core.Path.{◌≡◌, refl, ap, ◌∙◌}
use mathlib.Core.Bool.{Bool, true, false}
use mathlib.Core.List.{List, [], ◌∷◌, ◌++◌, append_assoc}
use mathlib.Core.Logic.{⊎_elim}
use Prim.Native.Nat.{ℕ, ◌+◌, ◌-◌, ◌*◌, ◌<◌, ◌≤◌}
use native.Mathlib.Omega.{arith}
use borrow.Author.Tests.{leb-true, leb-false}
use lib.ListN.{length, take, drop, length-append, take-append-drop}
use lib.Seq.{take_all, take-append-add, length-take-le}
use lib.Dec.{leb}
use Rattle.signals.proofs.Bools.{either, clash}
use Rattle.trace_text.specs.Digits.{decimal}
use Rattle.trace_text.specs.declared.Entry.{Entry}
use Rattle.trace_text.specs.declared.Parsed.{Parsed as Header}
use Rattle.trace_text.specs.Form.{max_announced, Trace, Reading, reading, switch_line, entry_lines, header_lines, text_of}
use Rattle.trace_text.specs.RoundTrip.{OfForm, TooMany}
use Rattle.trace_text.proofs.RoundTrip.{View, read, many, bad, view, many_reads}
use Rattle.bench_text.specs.Report.{max_text, report_on, report_of}
use Rattle.bench_text.specs.Room.{DecidedEarly}
use Rattle.bench_text.proofs.Digits.{decimal_short, decimal_four}

switch_length : (seq : Bool) → length (switch_line seq) ≤ 8
switch_length true = omega arith
switch_length false = omega arith

-- a header has 28 bytes at most beside its digits
header_length : (h : Header) → length (header_lines h) ≤ 28 + length (decimal h.cycles)
header_length h = let s = switch_length h.seq in simp length-append (omega arith)

lines_length : (es : List Entry) → length (entry_lines es) ≡ 13 * length es
lines_length [] = refl
lines_length (e ∷ es) = rw (lines_length es) (omega arith)

text_length : (seq : Bool) (es : List Entry) → length es ≤ max_announced → length (text_of seq es) < max_text
text_length seq es few =
    let h = header_length (record { seq = seq; cycles = length es }) in
    let d = decimal_four (length es) (omega arith) in
    let l = lines_length es in
    rw (length-append (header_lines (record { seq = seq; cycles = length es })) (entry_lines es)) (omega arith)

-- what is too long to be of the form is not
not_long : {text : List ℕ} {t : Trace} → OfForm text t → max_text ≤ length text → ⊥
not_long f h = let l = text_length f.seq f.entries f.few in let e = ap length f.text_is in omega arith

many_extends : (text more : List ℕ) → TooMany text → TooMany (text ++ more)
many_extends text more m =
    record {
      header = m.header;
      rest = m.rest ++ more;
      many = m.many;
      digits = m.digits;
      text_is = ap (λ (l : List ℕ). l ++ more) m.text_is ∙ append_assoc (header_lines m.header) m.rest more;
    }

many_shrinks : (text : List ℕ) → TooMany text → TooMany (take max_text text)
many_shrinks text m =
    let front : List ℕ = header_lines m.header in
    let h : length front ≤ 33 = (let d = decimal_short m.header.cycles in let k = header_length m.header in omega arith) in
    let split : max_text ≡ length front + (max_text - length front) = omega arith in
    record {
      header = m.header;
      rest = take (max_text - length front) m.rest;
      many = m.many;
      digits = m.digits;
      text_is = ap (take max_text) m.text_is
          ∙ ap (λ (n : ℕ). take n (front ++ m.rest)) split
          ∙ take-append-add front m.rest (max_text - length front);
    }

-- two refusals of a long text agree
agree : (text : List ℕ) → max_text < length text → {r s : Reading} → View (take max_text text) r → View text s → reading (take max_text text) ≡ r → reading text ≡ s → r ≡ s
agree text h (read t f) w e i = absurd (not_long f (let l = length-take-le max_text text (omega arith) in omega arith))
agree text h (many m) (read t f) e i = absurd (not_long f (omega arith))
agree text h (many m) (many n) e i = refl
agree text h (many m) bad e i =
    let whole : take max_text text ++ drop max_text text ≡ text = take-append-drop max_text text in
    let n : TooMany text = rw whole at (many_extends (take max_text text) (drop max_text text) m) in
    let p = many_reads text n in
    absurd (clash cc)
agree text h bad (read t f) e i = absurd (not_long f (omega arith))
agree text h bad (many n) e i =
    let p = many_reads (take max_text text) (many_shrinks text n) in
    absurd (clash cc)
agree text h bad bad e i = refl

pub decided_early_lem : DecidedEarly
decided_early_lem text = ⊎_elim short long (either (leb (length text) max_text))
  where
    short : leb (length text) max_text ≡ true → reading (take max_text text) ≡ reading text
    short t = ap reading (take_all max_text text (leb-true (length text) max_text t))

    long : leb (length text) max_text ≡ false → reading (take max_text text) ≡ reading text
    long f = agree text (leb-false (length text) max_text f) (view (take max_text text)) (view text) refl refl

-- and so is its report
pub report_early : (text : List ℕ) → report_of (take max_text text) ≡ report_of text
unfolding report_of
report_early text = ap report_on (decided_early_lem text)
