-- The walk over the FIFOs of a chain from the mouth to the outlet, over their values: those before a place have been served, and those
-- from it on are as they were. One turn of a cycle and of a clear. Assumes nothing.
use mathlib.Core.Path.{◌≡◌, refl, sym, ap, ◌∙◌}
use mathlib.Core.Bool.{Bool, true, false, cond}
use mathlib.Core.List.{List, [], ◌∷◌, ◌++◌, map, map-append, append_assoc, append-nil}
use Prim.Native.Nat.{ℕ, ◌+◌, ◌≤◌, ◌<◌}
use native.Mathlib.Omega.{arith}
use native.Mathlib.Numerals.{add-one}
use lib.ListN.{length, get_or, set, take, drop, drop_of_length-le}
use lib.Seq.{take_all, drop-cons, drop-set-lt, take-suc-set}
use Rattle.signals.specs.declared.Payload.{Payload}
use Rattle.signals.specs.Payloads.{legal_strb}
use Rattle.signals.proofs.Bools.{clash}
use Rattle.fifo.specs.Queue as queue
use Rattle.fifo.specs.Queue.{Queue, ready, when, is_any, shown, shown_as, next, emptied}
use Rattle.fifo.proofs.Stepping.{shown_offered, Served}
use Rattle.chain.specs.Line.{mouth, cycle, outlet}
use Rattle.chain.specs.Calls.{well}
use Rattle.chain.specs.Promises.{line_of}
use Rattle.chain.proofs.Used.{line_of_wells, wells_of_line}

-- the queues of the FIFOs served, and of those left
pub record Split (vs : List queue.Value) (i : ℕ) (served left : List Queue) : Type 0 where
  pub below : take i vs ≡ map queue.well served
  pub from : drop i vs ≡ map queue.well left

pub split_start : (vs : List queue.Value) (qs : List Queue) → line_of vs ≡ well qs → Split vs 0 [] qs
split_start vs qs e = record { below = refl; from = wells_of_line vs qs e }

pub split_end : (vs : List queue.Value) (i : ℕ) (served left : List Queue) → length vs ≤ i → Split vs i served left
    → line_of vs ≡ well served
split_end vs i served left h s = ap line_of (sym (take_all i vs h) ∙ s.below) ∙ line_of_wells served

module _ (vs : List queue.Value) (i : ℕ) where
  -- none is left at the end
  pub none_left : (left : List Queue) → length vs ≤ i → drop i vs ≡ map queue.well left → left ≡ []
  none_left [] h e = refl
  none_left (q ∷ qs) h e = absurd (let f = drop_of_length-le vs h in clash cc)

  -- the FIFO at a place before the end is the first of those left
  pub record Front (left : List Queue) : Type 0 where
    pub first : Queue
    pub others : List Queue
    pub stands : left ≡ first ∷ others
    pub has : get_or vs i queue.ill ≡ queue.well first
    pub behind : drop (i + 1) vs ≡ map queue.well others

  pub front : (left : List Queue) → i < length vs → drop i vs ≡ map queue.well left → Front left
  front left h e = by_left left (rw (add-one i) (sym (drop-cons vs i queue.ill h) ∙ e))
    where
      by_left : (left : List Queue) → get_or vs i queue.ill ∷ drop (i + 1) vs ≡ map queue.well left → Front left
      by_left [] e = absurd (clash cc)
      by_left (q ∷ qs) e = record { first = q; others = qs; stands = refl; has = cc; behind = cc }

  -- what is ready as it is, is ready to what stands before it
  pub mouth_ready : (left : List Queue) (sink is-ready : Bool) → i < length vs → drop i vs ≡ map queue.well left
      → ((q : Queue) → get_or vs i queue.ill ≡ queue.well q → is-ready ≡ ready q) → is-ready ≡ mouth left sink
  mouth_ready left sink is-ready h e is = let f = front left h e in rw f.stands (is f.first f.has)

  pub mouth_sink : (left : List Queue) (sink : Bool) → length vs ≤ i → drop i vs ≡ map queue.well left → sink ≡ mouth left sink
  mouth_sink left sink h e = rw (none_left left h e)

  -- a store at the place serves it
  pub serve : (served others : List Queue) (q : Queue) → i < length vs
      → take i vs ≡ map queue.well served → drop (i + 1) vs ≡ map queue.well others
      → Split (set vs i (queue.well q)) (i + 1) (served ++ (q ∷ [])) others
  serve served others q h below from =
      record {
        below = rw (add-one i, take-suc-set vs i (queue.well q) h, below, map-append);
        from = drop-set-lt (i + 1) vs i (queue.well q) (omega arith) ∙ from;
      }

-- what a cycle with clear or without leaves of a row, and what it shows at the outlet
abbrev pub left_by : (clear : Bool) (row : List Queue) (source : List Payload) (sink : Bool) → List Queue
left_by clear row source sink = cond clear (map emptied row) (cycle row source sink)

abbrev pub shown_by : (clear : Bool) (row : List Queue) (source : List Payload) → List Payload
shown_by clear row source = cond clear [] (outlet row source)

-- So far in a cycle: what is served is as the rule leaves it, and the rest of the row, fed with what is handed on, makes the rule's row
-- and outlet.
pub record Walking (clear : Bool) (row : List Queue) (source : List Payload) (sink : Bool) (vs : List queue.Value) (i : ℕ)
    (offers : Bool) (p : Payload) : Type 0 where
  pub served : List Queue
  pub left : List Queue
  pub split : Split vs i served left
  pub next : served ++ left_by clear left (when offers (p ∷ [])) sink ≡ left_by clear row source sink
  pub shows : shown_by clear left (when offers (p ∷ [])) ≡ shown_by clear row source
  -- what is handed on is legal, and past the first FIFO it is what was shown, and nothing in a clear
  pub legal : legal_strb p ≡ true
  pub valid : 0 < i → offers ≡ is_any (cond clear [] (when offers (p ∷ [])))
  pub payload : 0 < i → p ≡ shown_as (cond clear [] (when offers (p ∷ [])))

pub walking_start : (clear : Bool) (vs : List queue.Value) (row : List Queue) (sink offers : Bool) (p : Payload) → line_of vs ≡ well row
    → legal_strb p ≡ true → Walking clear row (when offers (p ∷ [])) sink vs 0 offers p
walking_start clear vs row sink offers p e legal =
    record {
      served = [];
      left = row;
      split = split_start vs row e;
      next = refl;
      shows = refl;
      legal = legal;
      valid = λ h. absurd (omega (arith, h));
      payload = λ h. absurd (omega (arith, h));
    }

-- one turn: the FIFO at i is served with `behind`, the ready of what stands behind it
pub walking_on : (clear : Bool) (row : List Queue) (source : List Payload) (sink : Bool) (vs : List queue.Value) (i : ℕ)
    (offers : Bool) (p : Payload) (behind : Bool) (valid : Bool) (payload : Payload) (v : queue.Value) → i < length vs
    → Walking clear row source sink vs i offers p
    → ((others : List Queue) → drop (i + 1) vs ≡ map queue.well others → behind ≡ mouth others sink)
    → ((q : Queue) → get_or vs i queue.ill ≡ queue.well q → legal_strb p ≡ true → Served q offers p behind clear valid payload v)
    → Walking clear row source sink (set vs i v) (i + 1) valid payload
walking_on true row source sink vs i offers p behind valid payload v h w is-behind serves =
    let f = front vs i w.left h w.split.from in
    let a = serves f.first f.has w.legal in
    record {
      served = w.served ++ (emptied f.first ∷ []);
      left = f.others;
      split = rw a.by_next (serve vs i w.served f.others _ h w.split.below f.behind);
      next = rw append_assoc (rw f.stands at w.next);
      shows = refl;
      legal = a.legal;
      valid = λ _. a.by_valid;
      payload = λ _. a.by_payload;
    }
walking_on false row source sink vs i offers p behind valid payload v h w is-behind serves =
    let f = front vs i w.left h w.split.from in
    let q = f.first in
    let a = serves q f.has w.legal in
    let handed : when valid (payload ∷ []) ≡ shown q = rw (a.by_valid, a.by_payload) (shown_offered q) in
    record {
      served = w.served ++ (next q (when offers (p ∷ [])) behind ∷ []);
      left = f.others;
      split = rw a.by_next (serve vs i w.served f.others _ h w.split.below f.behind);
      next = rw (append_assoc, handed, is-behind f.others f.behind) (rw f.stands at w.next);
      shows = rw handed (rw f.stands at w.shows);
      legal = a.legal;
      valid = λ _. a.by_valid ∙ ap is_any (sym handed);
      payload = λ _. a.by_payload ∙ ap shown_as (sym handed);
    }

-- at the end the served FIFOs are the rule's row, and what the last one shows is the rule's outlet
pub record Ended (clear : Bool) (row : List Queue) (source : List Payload) (sink : Bool) (vs : List queue.Value)
    (offers : Bool) (p : Payload) : Type 0 where
  pub next : line_of vs ≡ well (left_by clear row source sink)
  pub valid : offers ≡ is_any (shown_by clear row source)
  pub payload : p ≡ shown_as (shown_by clear row source)

pub walking_end : (clear : Bool) (row : List Queue) (source : List Payload) (sink : Bool) (vs : List queue.Value) (i : ℕ)
    (offers : Bool) (p : Payload) → 0 < i → length vs ≤ i → Walking clear row source sink vs i offers p → Ended clear row source sink vs offers p
walking_end clear row source sink vs i offers p some all w =
    let none = none_left vs i w.left all w.split.from in
    let shows : shown_by clear [] (when offers (p ∷ [])) ≡ shown_by clear row source = rw none at w.shows in
    record {
      next = split_end vs i w.served w.left all w.split ∙ ap well (sym (append-nil w.served) ∙ (rw (none, nothing clear) at w.next));
      valid = w.valid some ∙ ap is_any shows;
      payload = w.payload some ∙ ap shown_as shows;
    }
  where
    nothing : (clear : Bool) → ◌≡◌ {A = List Queue} (cond clear [] []) []
    nothing true = refl
    nothing false = refl

-- so a cycle with no clear ends with the cycle's row, and with the valid and the payload that the last FIFO shows
pub cycling_end : (row : List Queue) (source : List Payload) (sink : Bool) (vs : List queue.Value) (i : ℕ) (offers : Bool) (p : Payload)
    → 0 < i → length vs ≤ i → Walking false row source sink vs i offers p → Ended false row source sink vs offers p
cycling_end row source sink vs i offers p some all w = walking_end false row source sink vs i offers p some all w
