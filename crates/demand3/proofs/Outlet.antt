-- The outlet keeps stream rules 4 and 2 between a cycle and the next that is no clear cycle.
-- Idea: what the last FIFO shows is its oldest, and that stays the oldest while the sink does not take it, whatever joins behind; after a
-- clear cycle there is no duty. Assumes nothing.
use Prim.Native.Nat.{◌≤◌}
use native.Mathlib.Omega.{arith}
use mathlib.Core.Bool.{Bool, true, false, cond}
use mathlib.Core.List.{List, [], ◌∷◌, ◌++◌, map, nil≢cons, head-eq_of_cons-eq, tail-eq_of_cons-eq}
use mathlib.Core.Path.{◌≡◌, refl, ◌∙◌, ap, subst₂}
use mathlib.Core.Logic.{⊎_elim}
use lib.ListN.{length, length-map}
use Rattle.signals.specs.declared.Payload.{Payload}
use Rattle.signals.specs.Stream.{Sample, clear_cycle}
use Rattle.signals.proofs.Bools.{either}
use Rattle.signals.proofs.Payloads.{same_payload_lem}
use Rattle.fifo.specs.Queue.{Queue, emptied, oldest, ready, shown, next}
use Rattle.chain.specs.Line.{cycle, outlet}
use Rattle.chain.specs.Cycles.{Cycle, offered, after, after_all, sample_of, outlet_in, outlet_trace}
use Rattle.demand3.specs.Demand3.{KeepsRules}
use Rattle.demand3.proofs.Falls.{cycle_length}

-- what joins at the end does not change the oldest
join_keeps_oldest : (held more : List Payload) (p : Payload) (ps : List Payload) → oldest held ≡ p ∷ ps → oldest (held ++ more) ≡ p ∷ ps
join_keeps_oldest [] more p ps e = absurd (nil≢cons e)
join_keeps_oldest (q ∷ qs) more p ps e = e

-- Shown and not taken, it is shown again, whatever is offered in the two cycles.
pub shown_again : (qs : List Queue) → 1 ≤ length qs → (offer later : List Payload) (p : Payload) (ps : List Payload) →
    outlet qs offer ≡ p ∷ ps → outlet (cycle qs offer false) later ≡ p ∷ ps
shown_again [] some offer later p ps e = let z : ⊥ = omega arith in absurd z
shown_again (q ∷ []) some offer later p ps e = join_keeps_oldest q.held _ p ps e
shown_again (q ∷ r ∷ qs) some offer later p ps e =
    shown_again (r ∷ qs) (omega arith) (shown q) (shown (next q offer (ready r))) p ps e

-- the two rules, of what is shown in two cycles
again_keeps_rules : (sink sink' : Bool) (shows shows' : List Payload) →
    ((p : Payload) (ps : List Payload) → shows ≡ p ∷ ps → sink ≡ false → shows' ≡ p ∷ ps) →
    KeepsRules (sample_of sink false shows) (sample_of sink' false shows')
again_keeps_rules sink sink' [] shows' again = record { rule4 = refl; rule2 = refl }
again_keeps_rules true sink' (p ∷ ps) shows' again = record { rule4 = refl; rule2 = refl }
again_keeps_rules false sink' (p ∷ ps) shows' again =
    let e : shows' ≡ p ∷ ps = again p ps refl refl in
    record { rule4 = rw e; rule2 = rw (e, same_payload_lem p) }

-- a clear cycle lays no duty
clear_keeps_rules : (sink : Bool) (shows : List Payload) (now : Sample) → KeepsRules (sample_of sink true shows) now
clear_keeps_rules sink shows now = record { rule4 = refl; rule2 = refl }

cycles_keep_rules : (qs : List Queue) (c d : Cycle) → 1 ≤ length qs → d.clear ≡ false → KeepsRules (outlet_in qs c) (outlet_in (after qs c) d)
cycles_keep_rules qs c d some y = ⊎_elim cleared shown (either c.clear)
  where
    cleared : c.clear ≡ true → KeepsRules (outlet_in qs c) (outlet_in (after qs c) d)
    cleared x = rw x (clear_keeps_rules c.sink [] _)

    shown : c.clear ≡ false → KeepsRules (outlet_in qs c) (outlet_in (after qs c) d)
    shown x =
        rw (x, y)
        (again_keeps_rules c.sink d.sink (outlet qs (offered c)) (outlet (cycle qs (offered c) c.sink) (offered d))
        (λ p ps e z. rw z (shown_again qs some (offered c) (offered d) p ps e)))

after_length : (qs : List Queue) (c : Cycle) → length (after qs c) ≡ length qs
after_length qs c = by_clear c.clear
  where
    by_clear : (t : Bool) → length (cond t (map emptied qs) (cycle qs (offered c) c.sink)) ≡ length qs
    by_clear true = length-map qs emptied
    by_clear false = cycle_length qs (offered c) c.sink

pub trace_keeps_rules : (qs : List Queue) → 1 ≤ length qs → (cs : List Cycle) (past rest : List Sample) (before now : Sample) →
    outlet_trace qs cs ≡ past ++ before ∷ now ∷ rest → clear_cycle now ≡ false → KeepsRules before now
trace_keeps_rules qs some [] [] rest before now e y = absurd (nil≢cons e)
trace_keeps_rules qs some [] (p ∷ past) rest before now e y = absurd (nil≢cons e)
trace_keeps_rules qs some (c ∷ []) [] rest before now e y = absurd (nil≢cons (tail-eq_of_cons-eq e))
trace_keeps_rules qs some (c ∷ d ∷ cs) [] rest before now e y =
    subst₂ KeepsRules first second (cycles_keep_rules qs c d some (ap clear_cycle second ∙ y))
  where
    first : outlet_in qs c ≡ before
    first = head-eq_of_cons-eq e

    second : outlet_in (after qs c) d ≡ now
    second = head-eq_of_cons-eq (tail-eq_of_cons-eq e)
trace_keeps_rules qs some (c ∷ cs) (p ∷ past) rest before now e y =
    trace_keeps_rules (after qs c) (omega (arith, after_length qs c)) cs past rest before now (tail-eq_of_cons-eq e) y

pub trace_append : (qs : List Queue) (cs ds : List Cycle) → outlet_trace qs (cs ++ ds) ≡ outlet_trace qs cs ++ outlet_trace (after_all qs cs) ds
trace_append qs [] ds = refl
trace_append qs (c ∷ cs) ds = ap (λ x. outlet_in qs c ∷ x) (trace_append (after qs c) cs ds)
