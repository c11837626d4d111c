-- Slots in lent memory: one store of a word and of a strobe is a store of a payload, numbers in range with a slot for each place are a
-- FIFO's, and pointers stand for the same queue in any slots that are alike up to the depth. Assumes nothing.
use Prim.Native.Nat.{ℕ, zero, suc, ◌+◌, ◌≤◌, ◌<◌}
use native.Mathlib.Numerals.{add-one}
use native.Mathlib.Omega.{arith}
use mathlib.Core.Bool.{Bool, true, false, cond, ◌&&◌}
use mathlib.Core.List.{List, [], ◌∷◌}
use mathlib.Core.Path.{◌≡◌, refl, sym, ap, ◌∙◌}
use borrow.Author.Tests.{leb-true}
use lib.Dec.{leb}
use lib.ListN.{length, get_or, set, take}
use lib.Seq.{take-suc, take-suc-set, get_or-take}
use Rattle.signals.specs.declared.Payload.{Payload}
use Rattle.signals.specs.Payloads.{zeros}
use Rattle.signals.proofs.Bools.{both}
use Rattle.fifo.specs.declared.Fifo.{Fifo}
use Rattle.fifo.specs.declared.Pointers.{Pointers}
use Rattle.fifo.specs.Queue.{ill, well}
use Rattle.fifo.specs.Ring.{ring, wrapped, fifo_with, queue_of, numbers_in_range, in_range, trusted}
use Rattle.fifo.specs.Memory.{slots_in, fifo_in, has_slots, trusted_in}
use Rattle.fifo.proofs.Places.{wrapped_below}
use Rattle.fifo.proofs.Form.{form_of, trusted_in_lem, trusted_out}

-- the payload of a word and a strobe
abbrev pub slot : (word strb : ℕ) → Payload
slot word strb = record { «data» = word; strb = strb }

pub slots_length : (words strbs : List ℕ) (n : ℕ) → n ≤ length words → n ≤ length strbs → n ≤ length (slots_in words strbs)
unfolding slots_in
slots_length words strbs zero h k = omega arith
slots_length [] strbs (suc n) h k = absurd (omega arith)
slots_length (w ∷ words) [] (suc n) h k = absurd (omega arith)
slots_length (w ∷ words) (s ∷ strbs) (suc n) h k = omega (arith, slots_length words strbs n (omega arith) (omega arith))

pub slots_at : (words strbs : List ℕ) (i : ℕ) → i < length words → i < length strbs
    → get_or (slots_in words strbs) i zeros ≡ slot (get_or words i 0) (get_or strbs i 0)
unfolding slots_in
slots_at [] strbs i h k = absurd (omega arith)
slots_at (w ∷ words) [] i h k = absurd (omega arith)
slots_at (w ∷ words) (s ∷ strbs) zero h k = refl
slots_at (w ∷ words) (s ∷ strbs) (suc i) h k = slots_at words strbs i (omega arith) (omega arith)

pub slots_set : (words strbs : List ℕ) (i word strb : ℕ)
    → slots_in (set words i word) (set strbs i strb) ≡ set (slots_in words strbs) i (slot word strb)
unfolding slots_in
slots_set [] strbs i word strb = refl
slots_set (w ∷ words) [] zero word strb = refl
slots_set (w ∷ words) [] (suc i) word strb = refl
slots_set (w ∷ words) (s ∷ strbs) zero word strb = refl
slots_set (w ∷ words) (s ∷ strbs) (suc i) word strb = ap (λ (l : List Payload). slot w s ∷ l) (slots_set words strbs i word strb)

-- what the test says that a FIFO fits in memory
pub record Fits (p : Pointers) (words strbs : List ℕ) : Type 0 where
  pub numbers : numbers_in_range p ≡ true
  pub slots : has_slots p.place.depth words strbs ≡ true
  pub of_words : p.place.depth ≤ length words
  pub of_strbs : p.place.depth ≤ length strbs

pub fits_of : (p : Pointers) (words strbs : List ℕ) → (numbers_in_range p && has_slots p.place.depth words strbs) ≡ true
    → Fits p words strbs
fits_of p words strbs e =
    let h = both (numbers_in_range p) (has_slots p.place.depth words strbs) e in
    let k = both (leb p.place.depth (length words)) (leb p.place.depth (length strbs)) h.1 in
    record {
      numbers = h.0;
      slots = h.1;
      of_words = leb-true p.place.depth (length words) k.0;
      of_strbs = leb-true p.place.depth (length strbs) k.1;
    }

pub trusted_memory : (p : Pointers) (words strbs : List ℕ)
    → has_slots p.place.depth words strbs ≡ true → trusted_in p words strbs ≡ trusted (fifo_in p words strbs)
unfolding trusted_in
trusted_memory p words strbs e = rw e

pub fits_well : (p : Pointers) (words strbs : List ℕ) → Fits p words strbs
    → trusted_in p words strbs ≡ well (queue_of (fifo_in p words strbs))
fits_well p words strbs h = trusted_memory p words strbs h.slots ∙ trusted_in_lem (fifo_in p words strbs) h.numbers

-- and what it says where none does
pub unfit_ill : (f : Fifo) (room : Bool) → (in_range f && room) ≡ false → cond room (trusted f) ill ≡ ill
unfit_ill f true e = trusted_out f (without (in_range f) e)
  where
    without : (b : Bool) → (b && true) ≡ false → b ≡ false
    without true n = n
    without false n = refl
unfit_ill f false e = refl

pub unfit_in : (p : Pointers) (words strbs : List ℕ) → (numbers_in_range p && has_slots p.place.depth words strbs) ≡ false
    → trusted_in p words strbs ≡ ill
unfolding trusted_in
unfit_in p words strbs e = unfit_ill (fifo_in p words strbs) (has_slots p.place.depth words strbs) e

-- memory of the same lengths has slots for the same depth
pub slots_kept : (depth : ℕ) (words strbs afterWords afterStrbs : List ℕ) → has_slots depth words strbs ≡ true
    → length afterWords ≡ length words → length afterStrbs ≡ length strbs → has_slots depth afterWords afterStrbs ≡ true
slots_kept depth words strbs afterWords afterStrbs e h k = rw (h, k) e

-- a copy of slots grows by one
pub copies_next : (from to : List Payload) (i : ℕ) (p : Payload) → i < length from → i < length to → take i to ≡ take i from
    → p ≡ get_or from i zeros → take (i + 1) (set to i p) ≡ take (i + 1) from
copies_next from to i p h k alike e = rw (add-one i, take-suc-set to i p k, take-suc from i zeros h, alike, e)

-- and so does one in lent memory, by a word and a strobe that are the slot's
pub copies_slot :
    (from : List Payload) (words strbs : List ℕ) (i word strb : ℕ) → i < length from → i < length words → i < length strbs
    → take i (slots_in words strbs) ≡ take i from → word ≡ (get_or from i zeros).«data» → strb ≡ (get_or from i zeros).strb
    → take (i + 1) (slots_in (set words i word) (set strbs i strb)) ≡ take (i + 1) from
copies_slot from words strbs i word strb h in_words in_strbs alike e f =
    rw (slots_set words strbs i word strb, e, f)
    (copies_next from (slots_in words strbs) i (get_or from i zeros) h (slots_length words strbs _ in_words in_strbs) alike refl)

-- slots that are alike up to the depth, and so to the ring
abbrev pub Alike : (depth : ℕ) → (slots others : List Payload) → Type 0
Alike depth slots others = (i : ℕ) → i < depth → get_or slots i zeros ≡ get_or others i zeros

pub alike_of_take : (depth : ℕ) (slots others : List Payload) → take depth slots ≡ take depth others → Alike depth slots others
alike_of_take depth slots others e i h =
    sym (get_or-take depth slots i zeros h) ∙ ap (λ (l : List Payload). get_or l i zeros) e ∙ get_or-take depth others i zeros h

ring_alike : (slots others : List Payload) (depth at n : ℕ) → Alike depth slots others → at < depth
    → ring slots depth at n ≡ ring others depth at n
unfolding ring
ring_alike slots others depth at zero alike h = refl
ring_alike slots others depth at (suc n) alike h =
    rw (alike at h, ring_alike slots others depth (wrapped depth (at + 1)) n alike (wrapped_below depth at 1 (omega arith)))

pub trusted_alike : (p : Pointers) (slots others : List Payload) → Alike p.place.depth slots others
    → trusted (fifo_with p slots) ≡ trusted (fifo_with p others)
unfolding trusted
trusted_alike p slots others alike = by_test (numbers_in_range p) refl
  where
    by_test : (b : Bool) → numbers_in_range p ≡ b
        → cond b (well (queue_of (fifo_with p slots))) ill ≡ cond b (well (queue_of (fifo_with p others))) ill
    by_test true e =
        ap (λ (l : List Payload). well (record { place = p.place; held = l }))
        (ring_alike slots others p.place.depth p.oldest p.count alike (form_of (fifo_with p slots) e).oldest)
    by_test false e = refl

-- slots that were copied stand for what they were copied from
pub trusted_copied : (p : Pointers) (slots : List Payload) (words strbs : List ℕ) → has_slots p.place.depth words strbs ≡ true
    → Alike p.place.depth (slots_in words strbs) slots → trusted_in p words strbs ≡ trusted (fifo_with p slots)
trusted_copied p slots words strbs room alike = trusted_memory p words strbs room ∙ trusted_alike p (slots_in words strbs) slots alike
