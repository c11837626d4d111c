-- Order and delay over every list of cycles, from the laws of one cycle.
-- Idea: each cycle keeps `Sound`. Over a stretch with no clear `need` falls to 0, so that as many are delivered as had been accepted;
-- by the order they are the same ones. At a clear the order leaves what was held, and nothing else, unaccounted for. Assumes nothing.
use Prim.Native.Nat.{ℕ, ◌+◌, ◌-◌, ◌≤◌}
use native.Mathlib.Omega.{arith}
use mathlib.Core.Bool.{Bool, true, false, cond, ◌&&◌, false≢true}
use mathlib.Core.List.{List, [], ◌∷◌, ◌++◌, map, append_assoc, append-nil, head-eq_of_cons-eq, tail-eq_of_cons-eq}
use mathlib.Core.Path.{◌≡◌, refl, sym, ◌∙◌, ap, ap₂}
use lib.ListN.{length, length-append, length-map}
use Rattle.signals.specs.declared.Payload.{Payload}
use Rattle.signals.proofs.Bools.{both}
use Rattle.fifo.specs.declared.Place.{Place}
use Rattle.fifo.specs.Queue.{Queue, when, plain, empty, emptied, shown}
use Rattle.chain.specs.Line.{mouth, cycle, held_in}
use Rattle.chain.specs.Cycles.{Cycle, offered, ready_in, after, after_all}
use Rattle.chain.proofs.Need.{count, need, need_ahead, need_bound}
use Rattle.demand3.specs.Demand3.{accepted_in, delivered_in, Ledger, opened, entered, entered_all, CapacityAtLeast2, readies, NoClear, Begins, Drops, Clears}
use Rattle.demand3.proofs.Order.{leaving, entering, cycle_order}
use Rattle.demand3.proofs.Falls.{need_none, Falls, need_falls, falls_ticks, cycle_length, cycle_count, leaving_one}

-- What every cycle keeps: the order, the number k of FIFOs, and their room.
pub record Sound (k : ℕ) (l : Ledger) : Type 0 where
  pub order : l.accepted ≡ l.delivered ++ held_in l.line
  pub size : length l.line ≡ k
  pub room : CapacityAtLeast2 l.line

-- A line that is emptied.
emptied_room : (qs : List Queue) → CapacityAtLeast2 qs → CapacityAtLeast2 (map emptied qs)
emptied_room [] room = tt
emptied_room (q ∷ qs) room = (room.0, emptied_room qs room.1)

emptied_holds_none : (qs : List Queue) → held_in (map emptied qs) ≡ []
emptied_holds_none [] = refl
emptied_holds_none (q ∷ qs) = append-nil (held_in (map emptied qs)) ∙ emptied_holds_none qs

cycle_room : (qs : List Queue) → CapacityAtLeast2 qs → (offer : List Payload) (sink : Bool) → CapacityAtLeast2 (cycle qs offer sink)
cycle_room [] room offer sink = tt
cycle_room (q ∷ qs) room offer sink = (room.0, cycle_room qs room.1 (shown q) sink)

offered_one : (c : Cycle) → length (offered c) ≤ 1
offered_one c = by_valid c.valid
  where
    by_valid : (valid : Bool) → length (when valid (c.payload ∷ [])) ≤ 1
    by_valid true = omega arith
    by_valid false = omega arith

-- A cycle with no clear, in the ledger.
accepted_enters : (valid ready : Bool) (p : Payload) → when (valid && ready) (p ∷ []) ≡ when ready (when valid (p ∷ []))
accepted_enters true ready p = refl
accepted_enters false true p = refl
accepted_enters false false p = refl

entered_line : (l : Ledger) (c : Cycle) → c.clear ≡ false → (entered l c).line ≡ cycle l.line (offered c) c.sink
entered_line l c e = rw e

entered_accepted : (l : Ledger) (c : Cycle) → c.clear ≡ false →
    (entered l c).accepted ≡ l.accepted ++ entering l.line (offered c) c.sink
entered_accepted l c e = rw e (ap (λ x. l.accepted ++ x) (accepted_enters c.valid (mouth l.line c.sink) c.payload))

entered_delivered : (l : Ledger) (c : Cycle) → c.clear ≡ false →
    (entered l c).delivered ≡ l.delivered ++ leaving l.line (offered c) c.sink
entered_delivered l c e = rw e

pub sound_entered : (k : ℕ) (l : Ledger) (c : Cycle) → Sound k l → Sound k (entered l c)
sound_entered k l c s = by_clear c.clear refl
  where
    order : l.accepted ++ entering l.line (offered c) c.sink
        ≡ (l.delivered ++ leaving l.line (offered c) c.sink) ++ held_in (cycle l.line (offered c) c.sink)
    order = rw s.order (simp append_assoc (rw (cycle_order l.line (offered c) c.sink)))

    by_clear : (t : Bool) → c.clear ≡ t → Sound k (entered l c)
    by_clear true e =
        rw e
        record {
          order = sym (emptied_holds_none l.line);
          size = length-map l.line emptied ∙ s.size;
          room = emptied_room l.line s.room;
        }
    by_clear false e =
        record {
          order = entered_accepted l c e ∙ order ∙ sym (ap₂ (λ x y. x ++ held_in y) (entered_delivered l c e) (entered_line l c e));
          size = ap length (entered_line l c e) ∙ cycle_length l.line (offered c) c.sink ∙ s.size;
          room = rw e (cycle_room l.line s.room (offered c) c.sink);
        }

pub sound_all : (k : ℕ) (l : Ledger) (cs : List Cycle) → Sound k l → Sound k (entered_all l cs)
sound_all k l [] s = s
sound_all k l (c ∷ cs) s = sound_all k (entered l c) cs (sound_entered k l c s)

-- How many a cycle with no clear delivers: one at most.
abbrev pub gone : Ledger → Cycle → ℕ
gone l c = length (leaving l.line (offered c) c.sink)

pub gone_one : (l : Ledger) (c : Cycle) → gone l c ≤ 1
gone_one l c = leaving_one l.line (offered c) c.sink (offered_one c)

pub gone_delivered : (l : Ledger) (c : Cycle) → c.clear ≡ false → length (entered l c).delivered ≡ length l.delivered + gone l c
gone_delivered l c e = ap length (entered_delivered l c e) ∙ length-append l.delivered _

-- Of the m payloads nearest the outlet the others are still held, and need what they needed less this cycle.
pub others_held : (l : Ledger) (c : Cycle) → c.clear ≡ false → (m : ℕ) → m ≤ count l.line → m - gone l c ≤ count (entered l c).line
others_held l c e m h = rw e (omega (arith, cycle_count l.line (offered c) c.sink))

pub others_need : (k : ℕ) (l : Ledger) (c : Cycle) → Sound k l → c.clear ≡ false → (m : ℕ) → m ≤ count l.line →
    Falls c.sink (need (entered l c).line (m - gone l c)) (need l.line m)
others_need k l c s e m h =
    rw e
    (rw (need_ahead (empty (plain 2)) l.line m h) at
    (need_falls l.line s.room (empty (plain 2)) (offered c) c.sink m (offered_one c) (omega arith)))

-- They are delivered once the sink was ready as often as they need.
pub stretch_delivers : (k : ℕ) (l : Ledger) (m : ℕ) (stretch : List Cycle) → Sound k l → m ≤ count l.line → NoClear stretch →
    need l.line m ≤ readies stretch → length l.delivered + m ≤ length (entered_all l stretch).delivered
stretch_delivers k l m [] s h n enough = omega (arith, need_none l.line m h (omega arith))
stretch_delivers k l m (c ∷ cs) s h n enough =
    let less = falls_ticks c.sink _ _ (others_need k l c s n.0 m h) in
    omega (
      arith,
      gone_delivered l c n.0,
      stretch_delivers k (entered l c) (m - gone l c) cs (sound_entered k l c s) (others_held l c n.0 m h) n.1 (omega (arith, less)),
    )

-- with no clear the accepted ones are only added to
pub accepted_grows : (l : Ledger) (cs : List Cycle) → NoClear cs → Begins l.accepted (entered_all l cs).accepted
accepted_grows l [] n = ([], sym (append-nil l.accepted))
accepted_grows l (c ∷ cs) n = joined (accepted_grows (entered l c) cs n.1)
  where
    joined : Begins (entered l c).accepted (entered_all (entered l c) cs).accepted →
        Begins l.accepted (entered_all (entered l c) cs).accepted
    joined b = (
      entering l.line (offered c) c.sink ++ b.0,
      b.1 ∙ ap (λ x. x ++ b.0) (entered_accepted l c n.0) ∙ append_assoc l.accepted _ b.0,
    )

-- of two beginnings of one list the longer begins with the shorter
longer_begins : (xs ys us vs : List Payload) → xs ++ us ≡ ys ++ vs → length xs ≤ length ys → Begins xs ys
longer_begins [] ys us vs e h = (ys, refl)
longer_begins (x ∷ xs) [] us vs e h = let z : ⊥ = omega arith in absurd z
longer_begins (x ∷ xs) (y ∷ ys) us vs e h = with_head (longer_begins xs ys us vs (tail-eq_of_cons-eq e) (omega arith))
  where
    with_head : Begins xs ys → Begins (x ∷ xs) (y ∷ ys)
    with_head b = (b.0, cc (b.1, head-eq_of_cons-eq e))

-- a cycle that accepts is no clear
accepts_no_clear : (qs : List Queue) (c : Cycle) → (c.valid && ready_in qs c) ≡ true → c.clear ≡ false
accepts_no_clear qs c h = by_clear c.clear refl (both c.valid (ready_in qs c) h).1
  where
    by_clear : (t : Bool) → c.clear ≡ t → cond t false (mouth qs c.sink) ≡ true → c.clear ≡ false
    by_clear true e i = absurd (false≢true i)
    by_clear false e i = e

pub stretch_delivers_accepted : (k : ℕ) (l : Ledger) (c : Cycle) (stretch : List Cycle) → 1 ≤ k → Sound k l →
    (c.valid && ready_in l.line c) ≡ true → NoClear stretch → length (held_in l.line) + k ≤ readies stretch →
    Begins (entered l c).accepted (entered_all (entered l c) stretch).delivered
stretch_delivers_accepted k l c stretch some s h n enough =
    longer_begins (entered l c).accepted (entered_all (entered l c) stretch).delivered more.0
    (held_in (entered_all (entered l c) stretch).line)
    (sym more.1 ∙ (sound_all k (entered l c) stretch s₁).order)
    (omega (
      arith,
      simp length-append at (ap length s₁.order),
      stretch_delivers k (entered l c) (count (entered l c).line) stretch s₁ (omega arith) n needed,
    ))
  where
    s₁ : Sound k (entered l c)
    s₁ = sound_entered k l c s

    more : Begins (entered l c).accepted (entered_all (entered l c) stretch).accepted
    more = accepted_grows (entered l c) stretch n

    one_enters : (t : Bool) → length (when t (offered c)) ≤ length (offered c)
    one_enters true = omega arith
    one_enters false = omega arith

    held : count (entered l c).line ≤ count l.line + 1
    held =
        rw (accepts_no_clear l.line c h)
        (omega (arith, cycle_count l.line (offered c) c.sink, one_enters (mouth l.line c.sink), offered_one c))

    needed : need (entered l c).line (count (entered l c).line) ≤ readies stretch
    needed = omega (arith, need_bound (entered l c).line (count (entered l c).line), s₁.size, held)

-- A clear.
append_same : (xs ys zs : List Payload) → xs ++ ys ≡ xs ++ zs → ys ≡ zs
append_same [] ys zs e = e
append_same (x ∷ xs) ys zs e = append_same xs ys zs (tail-eq_of_cons-eq e)

pub clear_drops_held : (k : ℕ) (l : Ledger) (c : Cycle) → Sound k l → c.clear ≡ true → Clears l c
clear_drops_held k l c s e =
    record {
      accepts_none = accepts_none;
      delivers_none = delivers_none;
      drops_held = λ dropped. (
        λ d. append_same l.delivered dropped (held_in l.line) (sym (settled dropped d) ∙ s.order),
        λ is_held_lem. rw (accepts_none, delivers_none, holds_none_lem, is_held_lem) (simp append-nil s.order),
      );
      settles = settled;
    }
  where
    accepts_none : accepted_in l.line c ≡ []
    accepts_none = rw e (none_when c.valid (c.payload ∷ []))
      where
        none_when : (valid : Bool) (ps : List Payload) → when (valid && false) ps ≡ []
        none_when true ps = refl
        none_when false ps = refl

    delivers_none : delivered_in l.line c ≡ []
    delivers_none = rw e (none_when c.sink)
      where
        none_when : (sink : Bool) → when sink [] ≡ []
        none_when true = refl
        none_when false = refl

    holds_none_lem : held_in (after l.line c) ≡ []
    holds_none_lem = rw e (emptied_holds_none l.line)

    settled : (dropped : List Payload) → Drops l c dropped → l.accepted ≡ l.delivered ++ dropped
    settled dropped d =
        rw (accepts_none, delivers_none, holds_none_lem, append-nil l.accepted, append-nil l.delivered, append-nil (l.delivered ++ dropped)) at d

-- The start, and how ledgers follow one another.
empty_holds_none : (places : List Place) → held_in (map empty places) ≡ []
empty_holds_none [] = refl
empty_holds_none (d ∷ ds) = append-nil (held_in (map empty ds)) ∙ empty_holds_none ds

pub sound_opened : (places : List Place) → CapacityAtLeast2 (map empty places) → Sound (length places) (opened places)
sound_opened places room = record { order = sym (empty_holds_none places); size = length-map places empty; room = room }

pub entered_append : (l : Ledger) (cs ds : List Cycle) → entered_all l (cs ++ ds) ≡ entered_all (entered_all l cs) ds
entered_append l [] ds = refl
entered_append l (c ∷ cs) ds = entered_append (entered l c) cs ds

pub entered_after : (l : Ledger) (cs : List Cycle) → (entered_all l cs).line ≡ after_all l.line cs
entered_after l [] = refl
entered_after l (c ∷ cs) = entered_after (entered l c) cs
