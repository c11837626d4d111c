-- Demand 3.
-- Idea: from call to call the chain's value is the line that the ledger of all cycles before has, so that the answers are the rules' over
-- these cycles, and the laws over every list of cycles (`Ledger`, `Outlet`) are laws of what was answered. Assumes nothing.
use Prim.Native.Nat.{ℕ, ◌≤◌}
use native.Mathlib.Omega.{arith}
use mathlib.Core.Bool.{true, false, not}
use mathlib.Core.List.{List, [], ◌∷◌, ◌++◌, map}
use mathlib.Core.Option.{Option, none, some}
use mathlib.Core.Path.{◌≡◌, refl, sym, ◌∙◌, ap, ap₂, subst}
use lib.Dec.{leb}
use lib.ListN.{length}
use borrow.Author.Tests.{leb-true, not-false}
use Rattle.signals.specs.Refusals.{any_of}
use Rattle.signals.specs.Tables.{first_applying}
use Rattle.signals.proofs.Bools.{both, neither}
use Rattle.signals.proofs.Tables.{none_keeps}
use Rattle.fifo.specs.declared.Place.{Place}
use Rattle.fifo.specs.Queue.{empty, legal_place}
use Rattle.fifo.proofs.Depths.{capacity_least}
use Rattle.places.specs.Listing.{legal_count}
use Rattle.chain.specs.declared.Chain.{Chain}
use Rattle.chain.specs.Cycles.{Cycle, outlet_trace}
use Rattle.chain.specs.Calls.{Call, well, grounds, asked, back_by, answer, new_grounds}
use Rattle.chain.specs.Promises.{value, Done, Promised}
use Rattle.demand3.specs.Demand3.{Ledger, opened, entered_all, Session, cycles_by, cycles_of, cycles_in, outlet_of, outlets_in, CapacityAtLeast2, refusal_in, Ruled, Demand3, Claim}
use Rattle.demand3.proofs.Ledger.{Sound, sound_all, sound_opened, stretch_delivers_accepted, clear_drops_held, entered_append, entered_after}
use Rattle.demand3.proofs.Outlet.{trace_keeps_rules, trace_append}
use Rattle.demand3.proofs.Answers.{answer_shows_outlet, answer_refusal, grounds_not6}

-- A chain whose value is the ledger's line.
abbrev Carries : Chain → Ledger → Type 0
Carries chain l = value chain ≡ well l.line

back_entered : (l : Ledger) (call : Call) (o : Option ℕ) → back_by o (well l.line) call ≡ well (entered_all l (cycles_by o call)).line
back_entered l call none = ap well (sym (entered_after l (asked call)))
back_entered l call (some number) = refl

call_ruled : (l : Ledger) (given : Chain) → Carries given l → (d : Done) → Promised given d → Ruled l d
call_ruled l given v d p =
    let answers : d.answered ≡ answer (well l.line) d.call = p.answers ∙ ap (λ x. answer x d.call) v in
    record {
      answers = answers;
      gives = p.gives ∙ rw v (back_entered l d.call (first_applying (grounds true d.call)));
      not6 = λ e. grounds_not6 d.call (sym (ap (refusal_in d.call) answers ∙ answer_refusal l.line d.call) ∙ e);
    }

session_ruled : (l : Ledger) (given : Chain) → Carries given l → (past rest : List Done) (d : Done) → Session given (past ++ d ∷ rest) →
    Ruled (entered_all l (cycles_in past)) d
session_ruled l given v [] rest d s = call_ruled l given v d s.0
session_ruled l given v (p ∷ past) rest d s =
    rw (entered_append l (cycles_of p) (cycles_in past))
    (session_ruled (entered_all l (cycles_of p)) p.back (call_ruled l given v p s.0).gives past rest d s.1)

session_shows_outlet : (l : Ledger) (given : Chain) → Carries given l → (calls : List Done) → Session given calls →
    outlets_in calls ≡ outlet_trace l.line (cycles_in calls)
session_shows_outlet l given v [] s = refl
session_shows_outlet l given v (d ∷ ds) s =
    let ruled = call_ruled l given v d s.0 in
    ap₂ ◌++◌
    (ap (outlet_of d.call) ruled.answers ∙ answer_shows_outlet l.line d.call)
    (session_shows_outlet (entered_all l (cycles_of d)) d.back ruled.gives ds s.1
    ∙ ap (λ qs. outlet_trace qs (cycles_in ds)) (entered_after l (cycles_of d)))
    ∙ sym (trace_append l.line (cycles_of d) (cycles_in ds))

-- Places that `Chain::new` accepts: one at least, each of capacity at least 2.
pub record Legal (places : List Place) : Type 0 where
  pub count : 1 ≤ length places
  pub room : CapacityAtLeast2 (map empty places)

legal_room : (places : List Place) → any_of (λ place. not (legal_place place)) places ≡ false → CapacityAtLeast2 (map empty places)
legal_room [] h = tt
legal_room (p ∷ ps) h =
    let e = neither (not (legal_place p)) (any_of (λ place. not (legal_place place)) ps) h in
    (capacity_least p (not-false (legal_place p) e.0), legal_room ps e.1)

pub new_legal : (places : List Place) → first_applying (new_grounds places) ≡ none → Legal places
new_legal places e =
    let t = none_keeps (new_grounds places) e in
    record {
      count = leb-true 1 (length places) (both (leb 1 (length places)) _ (not-false (legal_count (length places)) t.0)).0;
      room = legal_room places t.1.0;
    }

-- From any chain whose FIFOs are empty and of legal places.
pub demand3_from : (places : List Place) → first_applying (new_grounds places) ≡ none → (start : Chain) → value start ≡ well (map empty places) →
    (calls : List Done) → Session start calls → Demand3 places calls
demand3_from places accepted start v calls s =
    record {
      answers = λ past rest d e. session_ruled (opened places) start v past rest d (subst (Session start) e s);
      order = λ past rest e. (sound past).order;
      clears = λ past rest c e x. clear_drops_held (length places) (entered_all (opened places) past) c (sound past) x;
      outlet = λ past rest before now e y.
          trace_keeps_rules (map empty places) (omega (arith, (sound []).size, legal.count)) (cycles_in calls) past rest before now
          (sym (session_shows_outlet (opened places) start v calls s) ∙ e)
          y;
      capacity = legal.room;
      delay = λ past stretch rest c e x n enough.
          stretch_delivers_accepted (length places) (entered_all (opened places) past) c stretch legal.count (sound past) x n
          (omega (arith, enough));
    }
  where
    legal : Legal places
    legal = new_legal places accepted

    sound : (past : List Cycle) → Sound (length places) (entered_all (opened places) past)
    sound past = sound_all (length places) (opened places) past (sound_opened places legal.room)

pub demand3 : Claim
demand3 places accepted new made calls s = demand3_from places accepted new made.gives calls s
