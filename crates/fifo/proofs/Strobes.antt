-- Legal strobes stay legal: what a queue shows is one of its own, and a cycle's queue has only its own and what was offered.
-- So a FIFO that is trusted after a step of one that was looked at has its whole form. Assumes nothing.
use mathlib.Core.Bool.{Bool, true, false, cond, false≢true}
use mathlib.Core.List.{List, [], ◌∷◌, ◌++◌}
use mathlib.Core.Path.{◌≡◌, refl, sym, ap, ◌∙◌}
use Rattle.signals.specs.declared.Payload.{Payload}
use Rattle.signals.specs.Payloads.{legal_strb}
use Rattle.signals.proofs.Bools.{both, clash}
use Rattle.fifo.specs.declared.Fifo.{Fifo}
use Rattle.fifo.specs.Queue.{Queue, Value, ill, well, is_well, when, rest, oldest, shown, shown_as, ready, next, legal_strbs}
use Rattle.fifo.specs.Ring.{trusted, value, strobes_checked}

pub legal_append : (ps qs : List Payload) → legal_strbs ps ≡ true → legal_strbs qs ≡ true → legal_strbs (ps ++ qs) ≡ true
unfolding legal_strbs
legal_append [] qs a b = b
legal_append (p ∷ ps) qs a b = let c = both (legal_strb p) (legal_strbs ps) a in rw (c.0, legal_append ps qs c.1 b)

pub legal_rest : (ps : List Payload) → legal_strbs ps ≡ true → legal_strbs (rest ps) ≡ true
unfolding legal_strbs
legal_rest [] a = refl
legal_rest (p ∷ ps) a = (both (legal_strb p) (legal_strbs ps) a).1

pub legal_when : (b : Bool) (ps : List Payload) → legal_strbs ps ≡ true → legal_strbs (when b ps) ≡ true
unfolding legal_strbs
legal_when true ps a = a
legal_when false ps a = refl

pub legal_one : (p : Payload) → legal_strb p ≡ true → legal_strbs (p ∷ []) ≡ true
unfolding legal_strbs
legal_one p a = rw a

legal_oldest : (ps : List Payload) → legal_strbs ps ≡ true → legal_strbs (oldest ps) ≡ true
unfolding legal_strbs
legal_oldest [] a = refl
legal_oldest (p ∷ ps) a = legal_one p (both (legal_strb p) (legal_strbs ps) a).0

legal_first : (ps : List Payload) → legal_strbs ps ≡ true → legal_strb (shown_as ps) ≡ true
unfolding legal_strbs
legal_first [] a = refl
legal_first (p ∷ ps) a = (both (legal_strb p) (legal_strbs ps) a).0

-- what is shown, as a list and as a payload
pub shown_legal : (q : Queue) → legal_strbs q.held ≡ true → legal_strbs (shown q) ≡ true
shown_legal q a = legal_oldest q.held a

pub shown_payload_legal : (q : Queue) → legal_strbs q.held ≡ true → legal_strb (shown_as (shown q)) ≡ true
shown_payload_legal q a = legal_first (shown q) (shown_legal q a)

pub next_legal : (q : Queue) (offer : List Payload) (sink : Bool) → legal_strbs q.held ≡ true → legal_strbs offer ≡ true → legal_strbs (next q offer sink).held ≡ true
next_legal q offer sink a b = legal_append (cond sink (rest q.held) q.held) (when (ready q) offer) (by_sink sink) (legal_when (ready q) offer b)
  where
    by_sink : (s : Bool) → legal_strbs (cond s (rest q.held) q.held) ≡ true
    by_sink true = legal_rest q.held a
    by_sink false = a

pub empty_legal : legal_strbs [] ≡ true
unfolding legal_strbs
empty_legal = refl

pub checked_legal : (q : Queue) → legal_strbs q.held ≡ true → strobes_checked (well q) ≡ well q
checked_legal q a = rw a

-- the value by the numbers is the value, where the held strobes are legal
pub value_of_trusted : (f : Fifo) (q : Queue) → trusted f ≡ well q → legal_strbs q.held ≡ true → value f ≡ well q
unfolding value
value_of_trusted f q e a = ap strobes_checked e ∙ checked_legal q a

-- whether a FIFO whose numbers are in range has its form is a matter of its strobes
pub well_strobes : (f : Fifo) (q : Queue) → trusted f ≡ well q → is_well (value f) ≡ legal_strbs q.held
unfolding value
well_strobes f q e = ap (λ (v : Value). is_well (strobes_checked v)) e ∙ by_test (legal_strbs q.held)
  where
    by_test : (b : Bool) → is_well (cond b (well q) ill) ≡ b
    by_test true = refl
    by_test false = refl

pub ill_value : (f : Fifo) → trusted f ≡ ill → value f ≡ ill
unfolding value
ill_value f e = ap strobes_checked e

-- a value of its form is a queue
pub well_queue : (v : Value) → is_well v ≡ true → (q : Queue) × (v ≡ well q)
well_queue ill e = absurd (false≢true e)
well_queue (well q) e = (q, refl)

-- a value that passed the look at the strobes is one by the numbers whose strobes are legal
pub checked_well : (v : Value) (q : Queue) → strobes_checked v ≡ well q → (v ≡ well q) × (legal_strbs q.held ≡ true)
checked_well ill q e = absurd (clash cc)
checked_well (well r) q e = by_test (legal_strbs r.held) refl e
  where
    by_test : (b : Bool) → legal_strbs r.held ≡ b → cond b (well r) ill ≡ well q → (well r ≡ well q) × (legal_strbs q.held ≡ true)
    by_test true a e = let same : r ≡ q = cc in (e, ap (λ (s : Queue). legal_strbs s.held) (sym same) ∙ a)
    by_test false a e = absurd (clash cc)

pub trusted_of_value : (f : Fifo) (q : Queue) → value f ≡ well q → (trusted f ≡ well q) × (legal_strbs q.held ≡ true)
unfolding value
trusted_of_value f q e = checked_well (trusted f) q e
