-- Numbers spelled in digits and read back. A number's lowest k digits, read as a number, are the number where it is below
-- the base's k-th power; and digits that are read are the spelling of what they stand for. Assumes nothing.
use mathlib.Core.Path.{◌≡◌, refl, sym, ap, ◌∙◌}
use mathlib.Core.Bool.{Bool, true, false, ◌||◌, false≢true}
use mathlib.Core.List.{List, [], ◌∷◌, ◌++◌, map, map-append, append-nil}
use mathlib.Core.Logic.{◌⊎◌, inl, inr, ⊎_elim}
use mathlib.Core.Option.{Option, none, some}
use Prim.Native.Nat.{ℕ, zero, suc, ◌+◌, ◌-◌, ◌*◌, ◌/◌, ◌%◌, ◌^◌, ◌<◌, ◌≤◌}
use native.Mathlib.Nat.{add-zero, zero-add, add-suc, suc-add, pow-zero, pow-suc, div-lt_iff_lt-mul, div-add-mod', mod-lt, mod-eq_of_lt, div-eq_of_lt, mul-add-div_right, mul-add-mod_self_right, pow-le-pow_right, lt_of_lt_of_le}
use native.Mathlib.Omega.{arith}
use borrow.Author.Tests.{leb-true, le-leb, lt-leb, lt-ltb}
use lib.ListN.{length, length-append}
use lib.Seq.{append_snoc}
use lib.Dec.{leb, eqb, eqb-suc-zero}
use Rattle.std.proofs.lemmas.Bool.Decides.{nat_tests}
use Rattle.signals.proofs.Bools.{either, both, clash}
use Rattle.trace_text.specs.Digits.{digit_byte, digit_of, fixed, number_from, without_zeros, decimal}
use Rattle.trace_text.specs.Form.{Front, digits, or_end, legal_number, number, hex_from, at_front, then}
use Rattle.trace_text.proofs.Digits.{digit_below, room_step}

-- one digit, both ways

pub digit_back : (base d : ℕ) → (d < 10) ⊎ ((16 ≤ base) × (d < 16)) → digit_of base (digit_byte d) ≡ some d
digit_back base d h = grind (arith, nat_tests)

pub digit_byte_lem : (base b d : ℕ) → digit_of base b ≡ some d → b ≡ digit_byte d
digit_byte_lem base b d e = grind (arith, nat_tests)

-- digits that are all below a base
abbrev pub Under : ℕ → List ℕ → Type 0
Under base [] = Unit {0}
Under base (d ∷ ds) = (d < base) × Under base ds

-- the lowest k digits of n
abbrev pub low : (base k n : ℕ) → List ℕ
low base zero n = []
low base (suc k) n = low base k (n / base) ++ n % base ∷ []

pub fixed_spells : (base k n : ℕ) → fixed base k n ≡ map digit_byte (low base k n)
fixed_spells base zero n = refl
fixed_spells base (suc k) n = rw (fixed_spells base k (n / base), map-append digit_byte (low base k (n / base)) (n % base ∷ []))

pub low_length : (base k n : ℕ) → length (low base k n) ≡ k
low_length base zero n = refl
low_length base (suc k) n = rw (length-append (low base k (n / base)) (n % base ∷ []), low_length base k (n / base)) (omega arith)

under_snoc : (base : ℕ) (ds : List ℕ) (d : ℕ) → Under base ds → d < base → Under base (ds ++ d ∷ [])
under_snoc base [] d u h = (h, tt)
under_snoc base (x ∷ ds) d u h = (u.0, under_snoc base ds d u.1 h)

pub low_under : (base k n : ℕ) → 0 < base → Under base (low base k n)
low_under base zero n p = tt
low_under base (suc k) n p = under_snoc base (low base k (n / base)) (n % base) (low_under base k (n / base) p) (mod-lt n p)

number_snoc : (base n : ℕ) (ds : List ℕ) (d : ℕ) → number_from base n (ds ++ d ∷ []) ≡ number_from base n ds * base + d
number_snoc base n [] d = refl
number_snoc base n (x ∷ ds) d = number_snoc base (n * base + x) ds d

pub low_number : (base k n : ℕ) → 0 < base → n < base ^ k → number_from base 0 (low base k n) ≡ n
low_number base zero n p h = let l : n < 1 = rw (pow-zero base) at h in omega arith
low_number base (suc k) n p h =
    number_snoc base 0 (low base k (n / base)) (n % base)
    ∙ ap (λ (m : ℕ). m * base + n % base) (low_number base k (n / base) p ((div-lt_iff_lt-mul p).1 (rw (pow-suc base k) at h)))
    ∙ div-add-mod' n base

-- a number that is read from digits is spelled by them, after the digits of what was there before
pub fixed_number : (base : ℕ) → 0 < base → (ds : List ℕ) → Under base ds → (j n : ℕ) → fixed base (j + length ds) (number_from base n ds) ≡ fixed base j n ++ map digit_byte ds
fixed_number base p [] u j n = rw (add-zero j) (sym (append-nil (fixed base j n)))
fixed_number base p (d ∷ ds) u j n =
    let over : (n * base + d) / base ≡ n = mul-add-div_right p n d ∙ ap (λ (q : ℕ). n + q) (div-eq_of_lt u.0) ∙ add-zero n in
    let left : (n * base + d) % base ≡ d = mul-add-mod_self_right n base d ∙ mod-eq_of_lt u.0 in
    ap (λ (k : ℕ). fixed base k (number_from base (n * base + d) ds)) (add-suc j (length ds) ∙ sym (suc-add j (length ds)))
    ∙ fixed_number base p ds u.1 (suc j) (n * base + d)
    ∙ rw (over, left) (append_snoc (fixed base j n) (digit_byte d) (map digit_byte ds))

pub number_below : (base n : ℕ) (ds : List ℕ) → Under base ds → number_from base n ds < (n + 1) * base ^ length ds
number_below base n [] u = rw (pow-zero base) (omega arith)
number_below base n (d ∷ ds) u = lt_of_lt_of_le (number_below base (n * base + d) ds u.1) (room_step base n (length ds) d u.0)

-- the announced number, both ways

pub digits_back : (ds rest : List ℕ) → Under 10 ds → digits (map digit_byte ds ++ 10 ∷ rest) ≡ record { item = ds; rest = 10 ∷ rest }
digits_back [] rest u = refl
digits_back (d ∷ ds) rest u = rw (digit_back 10 d (inl u.0), digits_back ds rest u.1)

pub record DigitsRead (text : List ℕ) (front : Front (List ℕ)) : Type 0 where
  pub under : Under 10 front.item
  pub text_is : text ≡ map digit_byte front.item ++ front.rest

pub digits_read : (text : List ℕ) → DigitsRead text (digits text)
digits_read [] = record { under = tt; text_is = refl }
digits_read (b ∷ text) = of (digit_of 10 b) refl (digits_read text)
  where
    of : (o : Option ℕ) → digit_of 10 b ≡ o → DigitsRead text (digits text) → DigitsRead (b ∷ text) (or_end o (b ∷ text) (digits text))
    of none e r = record { under = tt; text_is = refl }
    of (some d) e r =
        record {
          under = (digit_below 10 b d (omega arith) e, r.under);
          text_is = ap (λ (x : ℕ). x ∷ text) (digit_byte_lem 10 b d e) ∙ ap (λ (l : List ℕ). digit_byte d ∷ l) r.text_is;
        }

or-true : (b : Bool) → b || true ≡ true
or-true true = refl
or-true false = refl

-- the byte of a digit that is no zero
digit_high : (d : ℕ) → suc d < 10 → 48 < digit_byte (suc d)
digit_high d h = rw (lt-ltb (suc d) 10 h) (omega arith)

-- digits without leading zeros, that stand for the same number
record Short (ds : List ℕ) : Type 0 where
  short : List ℕ
  under : Under 10 short
  legal : legal_number short ≡ true
  value : number_from 10 0 short ≡ number_from 10 0 ds
  spells : without_zeros (map digit_byte ds) ≡ map digit_byte short

shorten : (d : ℕ) (ds : List ℕ) → Under 10 (d ∷ ds) → length ds ≤ 4 → Short (d ∷ ds)
shorten d [] u h = record { short = d ∷ []; under = u; legal = or-true (leb 1 d); value = refl; spells = refl }
shorten zero (e ∷ ds) u h =
    let s = shorten e ds u.1 (omega arith) in
    record { short = s.short; under = s.under; legal = s.legal; value = s.value; spells = s.spells }
shorten (suc d) (e ∷ ds) u h =
    record {
      short = suc d ∷ e ∷ ds;
      under = u;
      legal = rw (le-leb (length (e ∷ ds)) 4 h, le-leb 1 (suc d) (omega arith));
      value = refl;
      spells = rw (lt-leb (digit_byte (suc d)) 48 (digit_high d u.0));
    }

pub record Spelt (n : ℕ) : Type 0 where
  pub spelling : List ℕ
  pub under : Under 10 spelling
  pub legal : legal_number spelling ≡ true
  pub value : number_from 10 0 spelling ≡ n
  pub spells : decimal n ≡ map digit_byte spelling

pub spelt : (n : ℕ) → n < 100000 → Spelt n
unfolding decimal
spelt n h =
    let s = shorten (n / 10 / 10 / 10 / 10 % 10) (n / 10 / 10 / 10 % 10 ∷ n / 10 / 10 % 10 ∷ n / 10 % 10 ∷ n % 10 ∷ []) (low_under 10 5 n (omega arith)) (omega arith) in
    record {
      spelling = s.short;
      under = s.under;
      legal = s.legal;
      value = s.value ∙ low_number 10 5 n (omega arith) h;
      spells = s.spells;
    }

-- leading zeros go
zeros_go : (j : ℕ) (x : ℕ) (xs : List ℕ) → without_zeros (fixed 10 j 0 ++ x ∷ xs) ≡ without_zeros (x ∷ xs)
zeros_go zero x xs = refl
zeros_go (suc j) x xs = rw (append_snoc (fixed 10 j 0) 48 (x ∷ xs)) (zeros_go j 48 (x ∷ xs))

legal_stays : (d : ℕ) (ds : List ℕ) → Under 10 (d ∷ ds) → legal_number (d ∷ ds) ≡ true → without_zeros (map digit_byte (d ∷ ds)) ≡ map digit_byte (d ∷ ds)
legal_stays d [] u l = refl
legal_stays zero (e ∷ ds) u l = let z : false ≡ true = (rw (eqb-suc-zero (length ds)) at (both (leb (length (e ∷ ds)) 4) (eqb (length (e ∷ ds)) 0) l).1) in absurd (false≢true z)
legal_stays (suc d) (e ∷ ds) u l = rw (lt-leb (digit_byte (suc d)) 48 (digit_high d u.0))

-- legal digits are the spelling of their number
pub legal_spells : (ds : List ℕ) → Under 10 ds → legal_number ds ≡ true → decimal (number_from 10 0 ds) ≡ map digit_byte ds
unfolding decimal
legal_spells [] u l = absurd (false≢true l)
legal_spells (d ∷ ds) u l =
    let h : length ds ≤ 4 = leb-true (length ds) 4 (both (leb (length ds) 4) (leb 1 d || eqb (length ds) 0) l).0 in
    let five : 5 ≡ 4 - length ds + length (d ∷ ds) = omega arith in
    ap (λ (k : ℕ). without_zeros (fixed 10 k (number_from 10 0 (d ∷ ds)))) five
    ∙ ap without_zeros (fixed_number 10 (omega arith) (d ∷ ds) u (4 - length ds) 0)
    ∙ zeros_go (4 - length ds) (digit_byte d) (map digit_byte ds)
    ∙ legal_stays d ds u l

pub number_back : (n : ℕ) (rest : List ℕ) → n < 100000 → number (decimal n ++ 10 ∷ rest) ≡ some (record { item = n; rest = 10 ∷ rest })
number_back n rest h =
    let s = spelt n h in
    rw (s.spells, digits_back s.spelling rest s.under, s.legal, s.value)

pub record NumberRead (text : List ℕ) (front : Front ℕ) : Type 0 where
  pub below : front.item < 100000
  pub text_is : text ≡ decimal front.item ++ front.rest

pub number_read : (text : List ℕ) (front : Front ℕ) → number text ≡ some front → NumberRead text front
number_read text front e = ⊎_elim legal (λ f. absurd (illegal f)) (either (legal_number (digits text).item))
  where
    small : (ds : List ℕ) → legal_number ds ≡ true → (0 + 1) * 10 ^ length ds ≤ 100000
    small [] l = absurd (false≢true l)
    small (d ∷ ds) l =
        let h : length ds ≤ 4 = leb-true (length ds) 4 (both (leb (length ds) 4) (leb 1 d || eqb (length ds) 0) l).0 in
        let k : 10 ^ length (d ∷ ds) ≤ 10 ^ 5 = pow-le-pow_right {n = 10} (omega arith) {i = suc (length ds)} {j = 5} (omega arith) in
        omega arith

    legal : legal_number (digits text).item ≡ true → NumberRead text front
    legal t =
        let s : some (record { item = number_from 10 0 (digits text).item; rest = (digits text).rest }) ≡ some front = rw t at e in
        let q : record { item = number_from 10 0 (digits text).item; rest = (digits text).rest } ≡ front = cc in
        let r = digits_read text in
        let ds : List ℕ = (digits text).item in
        rw (← q)
        (record {
          below = lt_of_lt_of_le (number_below 10 0 ds r.under) (small ds t);
          text_is = r.text_is ∙ ap (λ (l : List ℕ). l ++ (digits text).rest) (sym (legal_spells ds r.under t));
        })

    illegal : legal_number (digits text).item ≡ false → ⊥
    illegal f =
        let s : none ≡ some front = rw f at e in
        clash cc

-- hex digits, both ways

pub hex_back : (ds rest : List ℕ) (n : ℕ) → Under 16 ds → hex_from n (length ds) (map digit_byte ds ++ rest) ≡ some (record { item = number_from 16 n ds; rest = rest })
hex_back [] rest n u = refl
hex_back (d ∷ ds) rest n u = rw (digit_back 16 d (inr (omega arith, u.0))) (hex_back ds rest (n * 16 + d) u.1)

-- a number below 16 to the k, spelled in k digits
pub hex_fixed : (k n : ℕ) (rest : List ℕ) → n < 16 ^ k → hex_from 0 k (fixed 16 k n ++ rest) ≡ some (record { item = n; rest = rest })
hex_fixed k n rest h =
    rw (fixed_spells 16 k n)
    (rw (low_length 16 k n, low_number 16 k n (omega arith) h) at (hex_back (low 16 k n) rest 0 (low_under 16 k n (omega arith))))

pub record HexRead (k n : ℕ) (text : List ℕ) (front : Front ℕ) : Type 0 where
  pub spelling : List ℕ
  pub under : Under 16 spelling
  pub long : length spelling ≡ k
  pub value : front.item ≡ number_from 16 n spelling
  pub text_is : text ≡ map digit_byte spelling ++ front.rest

pub hex_read : (k n : ℕ) (text : List ℕ) (front : Front ℕ) → hex_from n k text ≡ some front → HexRead k n text front
hex_read zero n text front e =
    let q : record { item = n; rest = text } ≡ front = cc in
    rw (← q) (record { spelling = []; under = tt; long = refl; value = refl; text_is = refl })
hex_read (suc k) n [] front e = absurd (clash cc)
hex_read (suc k) n (b ∷ text) front e = of (digit_of 16 b) refl e (λ d. hex_read k (n * 16 + d) text front)
  where
    of : (o : Option ℕ) → digit_of 16 b ≡ o → then (at_front o text) (λ d rest. hex_from (n * 16 + d) k rest) ≡ some front
        → ((d : ℕ) → hex_from (n * 16 + d) k text ≡ some front → HexRead k (n * 16 + d) text front) → HexRead (suc k) n (b ∷ text) front
    of none i q more = absurd (clash cc)
    of (some d) i q more =
        let r = more d q in
        record {
          spelling = d ∷ r.spelling;
          under = (digit_below 16 b d (omega arith) i, r.under);
          long = ap suc r.long;
          value = r.value;
          text_is = ap (λ (x : ℕ). x ∷ text) (digit_byte_lem 16 b d i) ∙ ap (λ (l : List ℕ). digit_byte d ∷ l) r.text_is;
        }

pub record FixedRead (k : ℕ) (text : List ℕ) (front : Front ℕ) : Type 0 where
  pub below : front.item < 16 ^ k
  pub text_is : text ≡ fixed 16 k front.item ++ front.rest

pub fixed_read : (k : ℕ) (text : List ℕ) (front : Front ℕ) → hex_from 0 k text ≡ some front → FixedRead k text front
fixed_read k text front e =
    let r = hex_read k 0 text front e in
    let b : number_from 16 0 r.spelling < (0 + 1) * 16 ^ length r.spelling = number_below 16 0 r.spelling r.under in
    let s : fixed 16 (0 + length r.spelling) (number_from 16 0 r.spelling) ≡ map digit_byte r.spelling = fixed_number 16 (omega arith) r.spelling r.under 0 0 in
    record {
      below = rw r.value (rw r.long at (let c : number_from 16 0 r.spelling < 16 ^ length r.spelling = omega arith in c));
      text_is = r.text_is
          ∙ ap (λ (l : List ℕ). l ++ front.rest) (sym (rw (zero-add (length r.spelling), r.long, ← r.value) at s));
    }

-- two hex digits stand for a byte
pub byte_read : (text rest : List ℕ) (n : ℕ) → hex_from 0 2 text ≡ some (record { item = n; rest = rest }) → n < 256
byte_read text rest n e = (fixed_read 2 text _ e).below
