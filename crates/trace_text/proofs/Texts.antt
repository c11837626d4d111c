-- Each part of a text, both ways: what is written is read back, and what is read was written so. Assumes nothing.
use mathlib.Core.Path.{◌≡◌, refl, ap, ◌∙◌}
use mathlib.Core.Bool.{Bool, true, false}
use mathlib.Core.List.{List, [], ◌∷◌, ◌++◌, append_assoc}
use mathlib.Core.Option.{Option, none, some}
use Prim.Native.Nat.{ℕ, zero, suc, ◌<◌}
use borrow.Author.Tests.{eq-eqb}
use lib.ListN.{length}
use lib.Seq.{append_snoc}
use Rattle.std.proofs.lemmas.Bool.Decides.{nat_tests}
use native.Mathlib.Omega.{arith}
use Rattle.signals.proofs.Bools.{clash}
use Rattle.trace_text.specs.Digits.{bytes, fixed, decimal}
use Rattle.trace_text.specs.declared.Entry.{Entry}
use Rattle.trace_text.specs.declared.Parsed.{Parsed as Header}
use Rattle.trace_text.specs.Form.{Front, then, or_else, literal, switch, switch_line, number, announced, hex_from, cycle_line, entry_line, entry_lines, cycle_lines, with_entry, header, header_lines}
use Rattle.trace_text.specs.RoundTrip.{Holds, AllHold}
use Rattle.trace_text.proofs.Spelling.{number_back, number_read, hex_fixed, fixed_read}

-- where two came one after the other, what came first, for whatever follows from it
module _ {A B C : Type 0} where
  then_read : (o : Option (Front A)) (go : A → List ℕ → Option B) (b : B) → then o go ≡ some b
      → ((front : Front A) → o ≡ some front → go front.item front.rest ≡ some b → C) → C
  then_read none go b e more = absurd (clash cc)
  then_read (some front) go b e more = more front refl e

-- what stands after given bytes may be spelled out
after : (given : List ℕ) {text rest spelled : List ℕ} → text ≡ given ++ rest → rest ≡ spelled → text ≡ given ++ spelled
after given e f = e ∙ ap (λ (l : List ℕ). given ++ l) f

-- given bytes

pub literal_back : (given rest : List ℕ) → literal given (given ++ rest) ≡ some (record { item = tt; rest = rest })
literal_back [] rest = refl
literal_back (g ∷ given) rest = rw (eq-eqb g g refl) (literal_back given rest)

pub literal_read : (given text : List ℕ) (front : Front (Unit {0})) → literal given text ≡ some front → text ≡ given ++ front.rest
literal_read [] text front e = ap (λ (f : Front (Unit {0})). f.rest) (let q : record { item = tt; rest = text } ≡ front = cc in q)
literal_read (g ∷ given) [] front e = absurd (clash cc)
literal_read (g ∷ given) (b ∷ text) front e = grind (arith, nat_tests, literal_read given text front)

-- the switch

pub switch_back : (seq : Bool) (rest : List ℕ) → switch (switch_line seq ++ rest) ≡ some (record { item = seq; rest = rest })
switch_back true rest = refl
switch_back false rest = refl

pub switch_read : (text : List ℕ) (front : Front Bool) → switch text ≡ some front → text ≡ switch_line front.item ++ front.rest
switch_read text front e = of (literal (bytes "seq=on\n") text) (literal (bytes "seq=off\n") text) refl refl e
  where
    of : (a b : Option (Front (Unit {0}))) → literal (bytes "seq=on\n") text ≡ a → literal (bytes "seq=off\n") text ≡ b
        → or_else (then a (λ _ rest. some (record { item = true; rest = rest }))) (then b (λ _ rest. some (record { item = false; rest = rest }))) ≡ some front
        → text ≡ switch_line front.item ++ front.rest
    of (some f) b i j q =
        let p : record { item = true; rest = f.rest } ≡ front = cc in
        rw (← p) (literal_read (bytes "seq=on\n") text f i)
    of none (some f) i j q =
        let p : record { item = false; rest = f.rest } ≡ front = cc in
        rw (← p) (literal_read (bytes "seq=off\n") text f j)
    of none none i j q = absurd (clash cc)

-- the announced number's line

record Announced (text : List ℕ) (front : Front ℕ) : Type 0 where
  below : front.item < 100000
  text_is : text ≡ bytes "cycles=" ++ (decimal front.item ++ 10 ∷ front.rest)

announced_back : (n : ℕ) (rest : List ℕ) → n < 100000 → announced (bytes "cycles=" ++ (decimal n ++ 10 ∷ rest)) ≡ some (record { item = n; rest = rest })
announced_back n rest h = rw (number_back n rest h)

announced_read : (text : List ℕ) (front : Front ℕ) → announced text ≡ some front → Announced text front
announced_read text front e =
    then_read (literal (bytes "cycles=") text) (λ _ rest. then (number rest) ended) front e λ key i e.
    then_read (number key.rest) ended front e λ n j e.
    then_read (literal (bytes "\n") n.rest) (λ _ rest. some (record { item = n.item; rest = rest })) front e λ end k e.
    let q : record { item = n.item; rest = end.rest } ≡ front = cc in
    let read = number_read key.rest n j in
    rw (← q)
    (record {
      below = read.below;
      text_is = after (bytes "cycles=") (literal_read (bytes "cycles=") text key i)
          (after (decimal n.item) read.text_is (literal_read (bytes "\n") n.rest end k));
    })
  where
    ended : ℕ → List ℕ → Option (Front ℕ)
    ended cycles rest = then (literal (bytes "\n") rest) λ _ rest. some (record { item = cycles; rest = rest })

-- the header

pub header_back : (h : Header) (rest : List ℕ) → h.cycles < 100000 → header (header_lines h ++ rest) ≡ some (record { item = h; rest = rest })
header_back h rest l = of h.seq
  where
    of : (seq : Bool) → header (header_lines (record { seq = seq; cycles = h.cycles }) ++ rest) ≡ some (record { item = record { seq = seq; cycles = h.cycles }; rest = rest })
    of true = rw (append_snoc (decimal h.cycles) 10 rest, number_back h.cycles rest l)
    of false = rw (append_snoc (decimal h.cycles) 10 rest, number_back h.cycles rest l)

pub record HeaderRead (text : List ℕ) (front : Front Header) : Type 0 where
  pub below : front.item.cycles < 100000
  pub text_is : text ≡ header_lines front.item ++ front.rest

joined : (kind s c d rest : List ℕ) → kind ++ (s ++ (c ++ (d ++ 10 ∷ rest))) ≡ kind ++ s ++ c ++ d ++ 10 ∷ [] ++ rest
joined kind s c d rest = simp append_assoc

pub header_read : (text : List ℕ) (front : Front Header) → header text ≡ some front → HeaderRead text front
header_read text front e =
    then_read (literal (bytes "kind=stream\n") text) (λ _ rest. then (switch rest) switched) front e λ kind i e.
    then_read (switch kind.rest) switched front e λ line j e.
    then_read (announced line.rest) (said line.item) front e λ n k e.
    let q : record { item = record { seq = line.item; cycles = n.item }; rest = n.rest } ≡ front = cc in
    let read = announced_read line.rest n k in
    rw (← q)
    (record {
      below = read.below;
      text_is = after (bytes "kind=stream\n") (literal_read (bytes "kind=stream\n") text kind i)
          (after (switch_line line.item) (switch_read kind.rest line j) read.text_is)
          ∙ joined (bytes "kind=stream\n") (switch_line line.item) (bytes "cycles=") (decimal n.item) n.rest;
    })
  where
    said : Bool → ℕ → List ℕ → Option (Front Header)
    said seq cycles rest = some (record { item = record { seq = seq; cycles = cycles }; rest = rest })

    switched : Bool → List ℕ → Option (Front Header)
    switched seq rest = then (announced rest) (said seq)

-- a cycle line

pub cycle_back : (e : Entry) (rest : List ℕ) → Holds e → cycle_line (entry_line e ++ rest) ≡ some (record { item = e; rest = rest })
cycle_back e rest h = rw (hex_fixed 2 e.control (fixed 16 8 e.word ++ 10 ∷ rest) h.control, hex_fixed 8 e.word (10 ∷ rest) h.word)

pub record CycleRead (text : List ℕ) (front : Front Entry) : Type 0 where
  pub holds : Holds front.item
  pub text_is : text ≡ entry_line front.item ++ front.rest

pub cycle_read : (text : List ℕ) (front : Front Entry) → cycle_line text ≡ some front → CycleRead text front
cycle_read text front e =
    then_read (literal (bytes "c=") text) (λ _ rest. then (hex_from 0 2 rest) controlled) front e λ key i e.
    then_read (hex_from 0 2 key.rest) controlled front e λ control j e.
    then_read (hex_from 0 8 control.rest) (worded control.item) front e λ word k e.
    then_read (literal (bytes "\n") word.rest) (ended control.item word.item) front e λ end l e.
    let q : record { item = record { control = control.item; word = word.item }; rest = end.rest } ≡ front = cc in
    let c = fixed_read 2 key.rest control j in
    let w = fixed_read 8 control.rest word k in
    rw (← q)
    (record {
      holds = record { control = c.below; word = w.below };
      text_is = after (bytes "c=") (literal_read (bytes "c=") text key i)
          (after (fixed 16 2 control.item) c.text_is
          (after (fixed 16 8 word.item) w.text_is (literal_read (bytes "\n") word.rest end l)));
    })
  where
    ended : ℕ → ℕ → Unit {0} → List ℕ → Option (Front Entry)
    ended control word _ rest = some (record { item = record { control = control; word = word }; rest = rest })

    worded : ℕ → ℕ → List ℕ → Option (Front Entry)
    worded control word rest = then (literal (bytes "\n") rest) (ended control word)

    controlled : ℕ → List ℕ → Option (Front Entry)
    controlled control rest = then (hex_from 0 8 rest) (worded control)

-- all cycle lines

pub cycles_back : (es : List Entry) → AllHold es → cycle_lines (length es) (entry_lines es) ≡ some es
cycles_back [] h = refl
cycles_back (e ∷ es) h = rw (cycle_back e (entry_lines es) h.0, cycles_back es h.1)

pub record CyclesRead (n : ℕ) (text : List ℕ) (es : List Entry) : Type 0 where
  pub long : length es ≡ n
  pub hold : AllHold es
  pub text_is : text ≡ entry_lines es

pub cycles_read : (n : ℕ) (text : List ℕ) (es : List Entry) → cycle_lines n text ≡ some es → CyclesRead n text es
cycles_read zero [] es e = let q : [] ≡ es = cc in rw (← q) (record { long = refl; hold = tt; text_is = refl })
cycles_read zero (b ∷ text) es e = absurd (clash cc)
cycles_read (suc n) text es e =
    then_read (cycle_line text) (λ e rest. with_entry e (cycle_lines n rest)) es e λ line i e.
    of (cycle_lines n line.rest) line.item refl e (cycle_read text line i) (λ fs. cycles_read n line.rest fs)
  where
    of : {rest : List ℕ} (o : Option (List Entry)) (item : Entry) → cycle_lines n rest ≡ o → with_entry item o ≡ some es → CycleRead text (record { item = item; rest = rest })
        → ((fs : List Entry) → cycle_lines n rest ≡ some fs → CyclesRead n rest fs) → CyclesRead (suc n) text es
    of none item i q line more = absurd (clash cc)
    of (some fs) item i q line more =
        let p : item ∷ fs ≡ es = cc in
        let r = more fs i in
        rw (← p)
        (record {
          long = ap suc r.long;
          hold = (line.holds, r.hold);
          text_is = line.text_is ∙ ap (λ (l : List ℕ). entry_line item ++ l) r.text_is;
        })
