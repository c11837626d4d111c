-- What each answer of `reading` means: a text is taken apart as `reading` takes it (`view`), and put together again.
-- Assumes nothing.
use mathlib.Core.Path.{◌≡◌, refl, sym, ap, ◌∙◌}
use mathlib.Core.Bool.{Bool, true, false, cond}
use mathlib.Core.List.{List, ◌++◌}
use mathlib.Core.Option.{Option, none, some}
use Prim.Native.Nat.{ℕ, ◌≤◌}
use native.Mathlib.Omega.{arith}
use borrow.Author.Tests.{ltb-true, ltb-false, lt-ltb, le-ltb}
use lib.ListN.{length}
use lib.Dec.{ltb}
use Rattle.signals.proofs.Bools.{clash}
use Rattle.trace_text.specs.declared.Entry.{Entry}
use Rattle.trace_text.specs.declared.Parsed.{Parsed as Header}
use Rattle.trace_text.specs.Form.{max_announced, Front, Trace, Reading, trace, refused, header, cycle_lines, trace_from, reading, entry_lines, header_lines, text_of}
use Rattle.trace_text.specs.RoundTrip.{OfForm, TooMany, ReadsBack, Means}
use Rattle.trace_text.proofs.Reading.{lines_read, after_header, reading_is}
use Rattle.trace_text.proofs.Texts.{header_back, header_read, cycles_back, cycles_read}

pub reads_back_lem : ReadsBack
reads_back_lem seq es few hold =
    reading_is (text_of seq es)
    ∙ rw (header_back (record { seq = seq; cycles = length es }) (entry_lines es) (omega arith), le-ltb max_announced (length es) few, cycles_back es hold)

form_reads : (text : List ℕ) (t : Trace) → OfForm text t → reading text ≡ trace t
form_reads text t f = rw (f.text_is, f.trace_is) (reads_back_lem f.seq f.entries f.few f.hold)

pub many_reads : (text : List ℕ) → TooMany text → reading text ≡ refused 3
many_reads text m = reading_is text ∙ rw (m.text_is, header_back m.header m.rest m.digits, lt-ltb max_announced m.header.cycles m.many)

-- a text, by what is read from it
pub data View (text : List ℕ) : Reading → Type 0 where
  read : (t : Trace) → OfForm text t → View text (trace t)
  many : TooMany text → View text (refused 3)
  bad : View text (refused 9)

view_lines : (text : List ℕ) (front : Front Header) → header text ≡ some front → front.item.cycles ≤ max_announced
    → (o : Option (List Entry)) → cycle_lines front.item.cycles front.rest ≡ o → View text (lines_read front.item.seq o)
view_lines text front e few none i = bad
view_lines text front e few (some es) i =
    let h = header_read text front e in
    let c = cycles_read front.item.cycles front.rest es i in
    let n : front.item.cycles ≡ length es = sym c.long in
    read (trace_from front.item.seq es)
    (record {
      seq = front.item.seq;
      entries = es;
      few = rw c.long few;
      hold = c.hold;
      text_is = h.text_is
          ∙ ap (λ (l : List ℕ). header_lines front.item ++ l) c.text_is
          ∙ ap (λ (m : ℕ). header_lines (record { seq = front.item.seq; cycles = m }) ++ entry_lines es) n;
      trace_is = refl;
    })

view_limit : (text : List ℕ) (front : Front Header) → header text ≡ some front → (b : Bool) → ltb max_announced front.item.cycles ≡ b
    → View text (cond b (refused 3) (lines_read front.item.seq (cycle_lines front.item.cycles front.rest)))
view_limit text front e true l =
    let h = header_read text front e in
    many (record { header = front.item; rest = front.rest; many = ltb-true max_announced front.item.cycles l; digits = h.below; text_is = h.text_is })
view_limit text front e false l =
    view_lines text front e (ltb-false max_announced front.item.cycles l) (cycle_lines front.item.cycles front.rest) refl

view_header : (text : List ℕ) (o : Option (Front Header)) → header text ≡ o → View text (after_header o)
view_header text none e = bad
view_header text (some front) e = view_limit text front e (ltb max_announced front.item.cycles) refl

pub view : (text : List ℕ) → View text (reading text)
view text = rw (reading_is text) (view_header text (header text) refl)

pub means : (text : List ℕ) → Means text
means text =
    record {
      trace_exactly = λ t. (λ e. of_trace (view text) t e, form_reads text t);
      three_exactly = (λ e. of_three (view text) e, many_reads text);
      nine_exactly = (λ e. (λ t f. two (form_reads text t f) e, λ m. both_refused (many_reads text m) e), λ w. of_nine (view text) w.0 w.1);
    }
  where
    two : {t : Trace} → reading text ≡ trace t → reading text ≡ refused 9 → ⊥
    two {t} p q = clash cc

    both_refused : reading text ≡ refused 3 → reading text ≡ refused 9 → ⊥
    both_refused p q = clash cc

    of_trace : {r : Reading} → View text r → (t : Trace) → r ≡ trace t → OfForm text t
    of_trace (read s f) t e = let q : s ≡ t = cc in rw (← q) f
    of_trace (many m) t e = absurd (clash cc)
    of_trace bad t e = absurd (clash cc)

    of_three : {r : Reading} → View text r → r ≡ refused 3 → TooMany text
    of_three (read s f) e = absurd (clash cc)
    of_three (many m) e = m
    of_three bad e = absurd (clash cc)

    of_nine : {r : Reading} → View text r → ((t : Trace) → OfForm text t → ⊥) → (TooMany text → ⊥) → r ≡ refused 9
    of_nine (read s f) no-form few = absurd (no-form s f)
    of_nine (many m) no-form few = absurd (few m)
    of_nine bad no-form few = refl
