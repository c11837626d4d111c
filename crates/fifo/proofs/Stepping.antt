-- A step's answer is the rule's, in a FIFO and in lent memory. One that was looked at once (`value f ≡ well q`) goes on having its whole
-- form, since legal strobes stay legal, so that the promise over the numbers is the one over the value. Assumes nothing.
use Prim.Native.Nat.{ℕ}
use mathlib.Core.Bool.{Bool, true, false, false≢true}
use mathlib.Core.List.{List, [], ◌∷◌}
use mathlib.Core.Logic.{⊎_elim}
use mathlib.Core.Option.{Option, none, some}
use mathlib.Core.Path.{◌≡◌, refl, sym, ap, ◌∙◌}
use Rattle.std.specs.Prelude.{Result, Ok, Err}
use Rattle.signals.specs.declared.Payload.{Payload}
use Rattle.signals.specs.declared.Refusal.{Refusal}
use Rattle.signals.specs.declared.Stepped.{Stepped}
use Rattle.signals.specs.Refusals.{number_of, accepts}
use Rattle.signals.specs.Tables.{first_applying}
use Rattle.signals.specs.Payloads.{legal_strb}
use Rattle.signals.proofs.Bools.{either}
use Rattle.fifo.specs.declared.Fifo.{Fifo}
use Rattle.fifo.specs.declared.Pointers.{Pointers}
use Rattle.fifo.specs.Queue.{Queue, Value, well, ready_of, Answer, refused, cycled, cycle_of, step_grounds, step_by, step_of, when, is_any, oldest, shown, shown_as, ready, next, emptied, legal_strbs}
use Rattle.fifo.specs.Ring.{trusted, value, strobes_checked}
use Rattle.fifo.specs.Promises.{Steps, answered, trusted_in, StaysPast, StepsIn, answered_in}
use Rattle.fifo.proofs.Strobes.{legal_one, legal_when, shown_payload_legal, next_legal, empty_legal, checked_legal, checked_well, trusted_of_value}

-- what a FIFO shows, offered to the next one, is what it shows
pub shown_offered : (q : Queue) → when (is_any (shown q)) (shown_as (shown q) ∷ []) ≡ shown q
shown_offered q = of_held q.held
  where
    of_held : (ps : List Payload) → when (is_any (oldest ps)) (shown_as (oldest ps) ∷ []) ≡ oldest ps
    of_held [] = refl
    of_held (p ∷ ps) = refl

-- what is ready by the numbers is what is ready
pub ready_of_value : (f : Fifo) (q : Queue) → value f ≡ well q → ready_of (trusted f) ≡ ready q
ready_of_value f q e = ap ready_of (trusted_of_value f q e).0

-- a step that is not refused, and one that is
pub step_legal : (q : Queue) (offer sink clear : Bool) (p : Payload) → legal_strb p ≡ true
    → step_of (well q) offer p sink clear ≡ cycle_of q (when offer (p ∷ [])) sink clear
unfolding step_of
step_legal q offer sink clear p a = rw a

pub step_refused : (v : Value) (offer sink clear : Bool) (p : Payload) (number : ℕ) → first_applying (step_grounds v p) ≡ some number
    → step_of v offer p sink clear ≡ refused number v
unfolding step_of
step_refused v offer sink clear p number e = ap (λ (o : Option ℕ). step_by o v offer p sink clear) e

-- an answer whose parts are the cycle's is the cycle's
pub parts_cycle : (q : Queue) (offer : List Payload) (sink is-ready valid : Bool) (p : Payload) (v : Value)
    → is-ready ≡ ready q → valid ≡ is_any (shown q) → p ≡ shown_as (shown q) → v ≡ well (next q offer sink)
    → record { refusal = none; ready = is-ready; valid = valid; payload = p; next = v } ≡ cycled q offer sink
parts_cycle q offer sink is-ready valid p v by-ready by_valid by_payload by_next = rw (by-ready, by_valid, by_payload, by_next)

-- the code's refusal is the rule's where its number is the one that is given
pub refusal_steps : (value_of : Fifo → Value) (f : Fifo) (offer sink clear : Bool) (p : Payload) (why : Refusal)
    → first_applying (step_grounds (value_of f) p) ≡ some (number_of why)
    → Steps value_of f offer p sink clear (Err why)
refusal_steps value_of f offer sink clear p why given =
    record { answer = sym (step_refused (value_of f) offer sink clear p (number_of why) given) }

-- and so is its cycle
pub cycle_answers : (v : Value) (q : Queue) (offer sink clear : Bool) (p : Payload) (a : Answer)
    → v ≡ well q → legal_strb p ≡ true → a ≡ cycle_of q (when offer (p ∷ [])) sink clear
    → a ≡ step_of v offer p sink clear
cycle_answers v q offer sink clear p a e legal cycle =
    cycle ∙ sym (ap (λ (w : Value). step_of w offer p sink clear) e ∙ step_legal q offer sink clear p legal)

pub cycle_steps : (f : Fifo) (q : Queue) (offer sink clear : Bool) (p : Payload) (s : Stepped Fifo)
    → trusted f ≡ well q → legal_strb p ≡ true
    → answered trusted f (Ok s) ≡ cycle_of q (when offer (p ∷ [])) sink clear
    → Steps trusted f offer p sink clear (Ok s)
cycle_steps f q offer sink clear p s e legal cycle =
    record { answer = cycle_answers (trusted f) q offer sink clear p (answered trusted f (Ok s)) e legal cycle }

-- the same in lent memory
pub refusal_steps_in : (p : Pointers) (words strbs : List ℕ) (offer sink clear : Bool) (payload : Payload) (why : Refusal)
    → first_applying (step_grounds (trusted_in p words strbs) payload) ≡ some (number_of why)
    → StepsIn p words strbs offer payload sink clear (Err why) words strbs
refusal_steps_in p words strbs offer sink clear payload why given =
    record {
      answer = sym (step_refused (trusted_in p words strbs) offer sink clear payload (number_of why) given);
      past = record { of_words = refl; of_strbs = refl };
      kept = λ _. (refl, refl);
    }

pub cycle_steps_in : (p : Pointers) (words strbs : List ℕ) (q : Queue) (offer sink clear : Bool) (payload : Payload) (s : Stepped Pointers)
    (afterWords afterStrbs : List ℕ)
    → trusted_in p words strbs ≡ well q → legal_strb payload ≡ true
    → answered_in p (Ok s) afterWords afterStrbs ≡ cycle_of q (when offer (payload ∷ [])) sink clear
    → StaysPast p.place.depth words strbs afterWords afterStrbs
    → StepsIn p words strbs offer payload sink clear (Ok s) afterWords afterStrbs
cycle_steps_in p words strbs q offer sink clear payload s afterWords afterStrbs e legal cycle past =
    record {
      answer = cycle_answers (trusted_in p words strbs) q offer sink clear payload (answered_in p (Ok s) afterWords afterStrbs) e legal cycle;
      past = past;
      kept = λ n. absurd (false≢true (sym n));
    }

-- an answer with a legal payload, and a next queue with legal strobes
record Legal (a : Answer) : Type 0 where
  pub payload : legal_strb a.payload ≡ true
  pub next : strobes_checked a.next ≡ a.next

answer_legal : (q : Queue) (offer sink clear : Bool) (p : Payload) → legal_strbs q.held ≡ true → Legal (step_of (well q) offer p sink clear)
unfolding step_of
answer_legal q offer sink clear p a =
    ⊎_elim (λ e. rw e (by_clear e clear)) (λ e. rw e (record { payload = refl; next = checked_legal q a })) (either (legal_strb p))
  where
    by_clear : legal_strb p ≡ true → (c : Bool) → Legal (cycle_of q (when offer (p ∷ [])) sink c)
    by_clear e true = record { payload = refl; next = checked_legal (emptied q) empty_legal }
    by_clear e false =
        record {
          payload = shown_payload_legal q a;
          next = checked_legal (next q (when offer (p ∷ [])) sink)
              (next_legal q (when offer (p ∷ [])) sink a (legal_when offer (p ∷ []) (legal_one p e)));
        }

-- what is answered by the numbers is answered by the strobes too, where those of the FIFO handed back are legal
value_answered : (f : Fifo) (r : Result (Stepped Fifo) Refusal) → strobes_checked (answered trusted f r).next ≡ (answered trusted f r).next
    → answered value f r ≡ answered trusted f r
unfolding value
value_answered f (Ok s) e =
    ap (λ (v : Value). record { refusal = none; ready = s.ready; valid = s.valid; payload = s.payload; next = v }) e
value_answered f (Err why) e = ap (refused (number_of why)) e

-- a trusted step is a step
pub trusted_steps : (f : Fifo) (q : Queue) (offer : Bool) (p : Payload) (sink clear : Bool) (r : Result (Stepped Fifo) Refusal) → value f ≡ well q
    → Steps trusted f offer p sink clear r → Steps value f offer p sink clear r
trusted_steps f q offer p sink clear r before steps =
    let look = trusted_of_value f q before in
    let by_rule : answered trusted f r ≡ step_of (well q) offer p sink clear =
    steps.answer ∙ ap (λ (v : Value). step_of v offer p sink clear) look.0
    in
    let legal : Legal (answered trusted f r) = rw by_rule (answer_legal q offer sink clear p look.1) in
    record { answer = value_answered f r legal.next ∙ by_rule ∙ sym (ap (λ (v : Value). step_of v offer p sink clear) before) }

-- what a FIFO that holds q answers in one cycle, with clear or without, and the value that it leaves
pub record Served (q : Queue) (offers : Bool) (p : Payload) (behind clear valid : Bool) (payload : Payload) (v : Value) : Type 0 where
  pub by_valid : valid ≡ (cycle_of q (when offers (p ∷ [])) behind clear).valid
  pub by_payload : payload ≡ (cycle_of q (when offers (p ∷ [])) behind clear).payload
  pub by_next : v ≡ (cycle_of q (when offers (p ∷ [])) behind clear).next
  pub legal : legal_strb payload ≡ true

-- an answer of the rule to a legal payload serves
pub answer_serves : (v : Value) (q : Queue) (offers : Bool) (p : Payload) (behind clear : Bool) (a : Answer) → strobes_checked v ≡ well q
    → legal_strb p ≡ true → a ≡ step_of v offers p behind clear → Served q offers p behind clear a.valid a.payload (strobes_checked a.next)
answer_serves v q offers p behind clear a before legal answer =
    let look = checked_well v q before in
    let by_rule : a ≡ step_of (well q) offers p behind clear = answer ∙ ap (λ (w : Value). step_of w offers p behind clear) look.0 in
    let legal_answer : Legal a = rw by_rule (answer_legal q offers behind clear p look.1) in
    let by_cycle : a ≡ cycle_of q (when offers (p ∷ [])) behind clear = by_rule ∙ step_legal q offers behind clear p legal in
    record {
      by_valid = ap (λ (x : Answer). x.valid) by_cycle;
      by_payload = ap (λ (x : Answer). x.payload) by_cycle;
      by_next = legal_answer.next ∙ ap (λ (x : Answer). x.next) by_cycle;
      legal = legal_answer.payload;
    }

-- and so does a trusted step
pub trusted_serves : (f : Fifo) (q : Queue) (offers : Bool) (p : Payload) (behind clear : Bool) (s : Stepped Fifo) → value f ≡ well q
    → legal_strb p ≡ true → Steps trusted f offers p behind clear (Ok s) → Served q offers p behind clear s.valid s.payload (value s.next)
unfolding value
trusted_serves f q offers p behind clear s before legal steps =
    answer_serves (trusted f) q offers p behind clear (answered trusted f (Ok s)) before legal steps.answer

-- with a legal payload nothing is refused
pub answer_accepts : (v : Value) (q : Queue) (offers : Bool) (p : Payload) (behind clear : Bool) (a : Answer) → strobes_checked v ≡ well q
    → legal_strb p ≡ true → a ≡ step_of v offers p behind clear → accepts a.refusal ≡ true
answer_accepts v q offers p behind clear a before legal answer =
    let look = checked_well v q before in
    ap (λ (b : Answer). accepts b.refusal)
    (answer ∙ ap (λ (w : Value). step_of w offers p behind clear) look.0 ∙ step_legal q offers behind clear p legal)
    ∙ accepted clear
  where
    accepted : (c : Bool) → accepts (cycle_of q (when offers (p ∷ [])) behind c).refusal ≡ true
    accepted true = refl
    accepted false = refl

pub trusted_never_refused : (f : Fifo) (q : Queue) (offers : Bool) (p : Payload) (behind clear : Bool) (why : Refusal) → value f ≡ well q
    → legal_strb p ≡ true → Steps trusted f offers p behind clear (Err why) → ⊥
unfolding value
trusted_never_refused f q offers p behind clear why before legal steps =
    false≢true (answer_accepts (trusted f) q offers p behind clear (answered trusted f (Err why)) before legal steps.answer)
