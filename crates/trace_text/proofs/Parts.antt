-- The front of a text, read by the library: given bytes, digits that are cut off, and one turn of each loop. What is left, read on from
-- here, answers for the whole. Assumes nothing.
use Rattle.std.proofs.Common.{◌≡◌, set, append_assoc, map, ◌⊎◌, inl, inr, ⊎_elim, Bool, true, false, cond, leb, refl, ap, ◌∙◌, ℕ, zero, suc, ◌+◌, ◌*◌, ◌-◌, ◌<◌, ◌≤◌, ◌≢◌, min, List, [], ◌∷◌, ◌++◌, length, take, drop, get_or, arith, add-one, drop-cons}
use Rattle.std.specs.Prelude.{nat_eq}
use lib.Pointwise.{pointwise}
use Rattle.std.specs.List.{prefix_len}
use Rattle.std.specs.Char.{is_ascii_digit}
use Rattle.std.proofs.lemmas.Bool.Decides.{nat_tests}
use borrow.Author.Tests.{leb-true}
use Rattle.signals.proofs.Bools.{both}
use Rattle.std.proofs.Math.Option.{Option, none, some}
use Rattle.std.proofs.Math.Seq.{take-suc-set}
use Rattle.trace_text.specs.Digits.{digit_of, number_from}
use Rattle.trace_text.specs.declared.Entry.{Entry}
use Rattle.trace_text.specs.Form.{Front, cycle_line, cycle_lines, with_entry, literal, hex_from, then, at_front, digits, or_end, legal_number, number}
use Rattle.trace_text.specs.Parts.{Columns, columns, number_of, then_digit}

-- given bytes: what follows them, if the text begins with them
pub literal_by : (given text : List ℕ) → literal given text
    ≡ cond (pointwise nat_eq (take (length given) text) given) (some (record { item = tt; rest = drop (length given) text })) none
literal_by [] text = refl
literal_by (g ∷ gs) [] = refl
literal_by (g ∷ gs) (b ∷ text) = grind (arith, literal_by gs text)

-- a number and the text after it
abbrev pub with_rest : Option ℕ → List ℕ → Option (Front ℕ)
with_rest none rest = none
with_rest (some n) rest = some (record { item = n; rest = rest })

-- hex digits: the number that the first of them stand for
pub hex_is : (n k : ℕ) (text : List ℕ) → k ≤ length text → hex_from n k text ≡ with_rest (number_of 16 n (take k text)) (drop k text)
hex_is n zero text h = refl
hex_is n (suc k) [] h = absurd (omega arith)
hex_is n (suc k) (b ∷ text) h = of (digit_of 16 b) (λ d. hex_is (n * 16 + d) k text (omega arith))
  where
    of : (o : Option ℕ) → ((d : ℕ) → hex_from (n * 16 + d) k text ≡ with_rest (number_of 16 (n * 16 + d) (take k text)) (drop k text))
        → then (at_front o text) (λ d rest. hex_from (n * 16 + d) k rest) ≡ with_rest (then_digit o λ d. number_of 16 (n * 16 + d) (take k text)) (drop k text)
    of none more = refl
    of (some d) more = more d

pub hex_short : (n k : ℕ) (text : List ℕ) → length text < k → hex_from n k text ≡ none
hex_short n zero text h = absurd (omega arith)
hex_short n (suc k) [] h = refl
hex_short n (suc k) (b ∷ text) h = of (digit_of 16 b) (λ d. hex_short (n * 16 + d) k text (omega arith))
  where
    of : (o : Option ℕ) → ((d : ℕ) → hex_from (n * 16 + d) k text ≡ none) → then (at_front o text) (λ d rest. hex_from (n * 16 + d) k rest) ≡ none
    of none more = refl
    of (some d) more = more d

-- a turn of the loop that reads digits
module _ (base n i : ℕ) (digits : List ℕ) (whole : Option ℕ) (so_far : whole ≡ number_of base n (drop i digits)) (inside : i < length digits) where
  pub number_goes_on : (d : ℕ) → digit_of base (get_or digits i 0) ≡ some d → whole ≡ number_of base (n * base + d) (drop (i + 1) digits)
  number_goes_on d e = rw add-one (rw (drop-cons digits i 0 inside, e) at so_far)

-- the digits at the front of a text are its first bytes
record Cut (text : List ℕ) (front : Front (List ℕ)) (k : ℕ) : Type 0 where
  long : length front.item ≡ k
  rest : front.rest ≡ drop k text
  first : 0 < k → get_or text 0 0 ≡ 48 + get_or front.item 0 0
  stands : (n : ℕ) → number_of 10 n (take k text) ≡ some (number_from 10 n front.item)

digits_cut : (text : List ℕ) → Cut text (digits text) (prefix_len is_ascii_digit text)
digits_cut [] = record { long = refl; rest = refl; first = λ h. absurd (omega arith); stands = λ n. refl }
digits_cut (b ∷ text) = of (is_ascii_digit b) refl (digits_cut text)
  where
    of : (t : Bool) → is_ascii_digit b ≡ t → Cut text (digits text) (prefix_len is_ascii_digit text)
        → Cut (b ∷ text) (or_end (cond t (some (b - 48)) none) (b ∷ text) (digits text)) (cond t (1 + prefix_len is_ascii_digit text) 0)
    of true e r =
        let h : 48 ≤ b = leb-true 48 b (both (leb 48 b) (leb b 57) e).0 in
        let more : 1 + prefix_len is_ascii_digit text ≡ suc (prefix_len is_ascii_digit text) = omega arith in
        rw more (record { long = ap suc r.long; rest = r.rest; first = λ _. omega arith; stands = λ n. rw e (r.stands (n * 10 + (b - 48))) })
    of false e r = record { long = refl; rest = refl; first = λ h. absurd (omega arith); stands = λ n. refl }

-- digits that are no number, and digits that are one
illegal : (ds : List ℕ) → ((length ds ≡ 0) ⊎ ((5 < length ds) ⊎ ((get_or ds 0 0 ≡ 0) × (length ds ≢ 1)))) → legal_number ds ≡ false
illegal [] h = refl
illegal (d ∷ ds) h = grind (arith, nat_tests)

legal : (ds : List ℕ) → 0 < length ds → length ds ≤ 5 → (get_or ds 0 0 ≡ 0 → length ds ≡ 1) → legal_number ds ≡ true
legal [] p h one = absurd (omega arith)
legal (d ∷ ds) p h one = grind (arith, nat_tests)

-- what passes at the front of the first k is what passes at the front of all, but for what lies beyond them
prefix_take : {X : Type 0} (p : X → Bool) (k : ℕ) (xs : List X) → prefix_len p (take k xs) ≡ min k (prefix_len p xs)
prefix_take p zero xs = omega arith
prefix_take p (suc k) [] = omega arith
prefix_take p (suc k) (x ∷ xs) = grind (arith, prefix_take p k xs)

-- a number by the count of its digits, of which the first six are counted
module _ (text : List ℕ) (count : ℕ) (count_is : count ≡ prefix_len is_ascii_digit (take 6 text)) where
  counted : count ≡ min 6 (prefix_len is_ascii_digit text)
  counted = count_is ∙ prefix_take is_ascii_digit 6 text

  pub number_refused : ((count ≡ 0) ⊎ ((5 < count) ⊎ ((0 < count) × (get_or text 0 0 ≡ 48) × (count ≢ 1)))) → number text ≡ none
  number_refused h =
      let cut = digits_cut text in
      let c = counted in
      rw (illegal (digits text).item (⊎_elim (λ z. inl (omega arith)) (λ k. inr (⊎_elim (λ m. inl (omega arith)) (λ w. inr (let f = cut.first (omega arith) in omega arith, λ l. w.2 (omega arith))) k)) h))

  pub number_taken : 0 < count → count ≤ 5 → (((get_or text 0 0 ≡ 48) × (count ≡ 1)) ⊎ (get_or text 0 0 ≡ 48 → ⊥)) → number text ≡ with_rest (number_of 10 0 (take count text)) (drop count text)
  number_taken p h one =
      let cut = digits_cut text in
      let c = counted in
      let all : count ≡ prefix_len is_ascii_digit text = omega arith in
      let f = cut.first (omega arith) in
      rw (all, cut.stands 0, cut.rest, legal (digits text).item (omega arith) (omega arith) (λ z. ⊎_elim (λ w. omega arith) (λ no. absurd (no (omega arith))) one))

-- the entries written so far, before those of the lines from here on
abbrev pub columns_after : (controls words : List ℕ) → Option Columns → Option Columns
columns_after controls words none = none
columns_after controls words (some c) = some (record { controls = controls ++ c.controls; words = words ++ c.words })

-- an entry crosses from the lines to those already written
entry_joins : (controls words : List ℕ) (e : Entry) (lines : Option (List Entry))
    → columns_after controls words (columns (with_entry e lines)) ≡ columns_after (controls ++ e.control ∷ []) (words ++ e.word ∷ []) (columns lines)
entry_joins controls words e none = refl
entry_joins controls words e (some es) =
    rw (append_assoc controls (e.control ∷ []) (map (λ e. e.control) es), append_assoc words (e.word ∷ []) (map (λ e. e.word) es))

-- a turn of the loop that reads cycle lines
module _ (text : List ℕ) (cycles i : ℕ) (control words : List ℕ) (whole : Option Columns)
    (so_far : whole ≡ columns_after (take i control) (take i words) (columns (cycle_lines (cycles - i) text))) where
  one_more : i < cycles → cycles - i ≡ suc (cycles - (i + 1))
  one_more h = omega arith

  pub lines_stop : i < cycles → cycle_line text ≡ none → whole ≡ none
  lines_stop h e = rw (one_more h, e) at so_far

  pub lines_go_on : (e : Entry) (rest : List ℕ) → i < cycles → i < length control → i < length words
      → cycle_line text ≡ some (record { item = e; rest = rest })
      → whole ≡ columns_after (take (i + 1) (set control i e.control)) (take (i + 1) (set words i e.word))
      (columns (cycle_lines (cycles - (i + 1)) rest))
  lines_go_on e rest h k l read =
      rw (add-one i, take-suc-set control i e.control k, take-suc-set words i e.word l, ← add-one i)
      ((rw (one_more h, read) at so_far)
      ∙ entry_joins (take i control) (take i words) e (cycle_lines (cycles - (i + 1)) rest))
