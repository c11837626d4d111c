-- Bursts lead to the legal records and to no others. To each they lead by bursts of one cycle: clear cycles, plain
-- handshakes, a counter, idle cycles, then the stalled cycle or the breach, and idle cycles past it. Assumes nothing.
use Prim.Native.Nat.{ℕ, zero, suc, ◌+◌, ◌*◌, ◌/◌, ◌%◌, ◌<◌, ◌≤◌, ◌^◌}
use native.Mathlib.Nat.{zero-add, add-zero, suc-add}
use native.Mathlib.Numerals.{add-one}
use native.Mathlib.Omega.{arith}
use mathlib.Core.Bool.{Bool, true, false}
use mathlib.Core.Logic.{⊎_elim}
use mathlib.Core.Path.{◌≡◌, refl, ◌∙◌, ap, subst}
use borrow.Author.Tests.{ne_eqb}
use Rattle.signals.specs.Payloads.{zeros, max_strb}
use Rattle.signals.specs.Stream.{sample}
use Rattle.signals.specs.declared.Payload.{Payload}
use Rattle.signals.proofs.Bools.{either, not_both}
use Rattle.stream_checker.specs.Rules.{counters, after_counter}
use Rattle.monitor.specs.declared.Monitor.{Monitor}
use Rattle.monitor.specs.Bursts.{max_seen}
use Rattle.monitor.specs.Cycle.{one_more}
use Rattle.monitor.specs.Step.{clean_with, broken_with}
use Rattle.monitor.specs.Theorems.{Reached, RefusedExactly}
use Rattle.monitor.proofs.Legal.{Clean, AfterStall, BySeq, Broken, legal_says}
use Rattle.monitor.proofs.Keeps.{reached_legal}
use Rattle.monitor.proofs.Stall.{stall_sample}
use Rattle.monitor.proofs.OneCycle.{reached_next, fresh_reached, later}

-- a clean record whose last cycle did not stall; s is its switch
abbrev still : (s : Bool) → (cycles handshakes clears : ℕ) → (counted : Bool) → (due : ℕ) → Monitor
still s cycles handshakes clears counted due = clean_with s cycles handshakes clears false zeros counted due

-- a clear cycle
after_clear : (s : Bool) (c h k : ℕ) → one_more (still s c h k false 0) (sample 4 0) ≡ still s (suc c) h (suc k) false 0
after_clear s c h k = rw (add-one c, add-zero h, add-one k)

-- a handshake that carries no counter
after_plain : (s : Bool) (c h k : ℕ) → one_more (still s c h k false 0) (sample 3 0) ≡ still s (suc c) (suc h) k false 0
after_plain true c h k = rw (add-one c, add-one h, add-zero k)
after_plain false c h k = rw (add-one c, add-one h, add-zero k)

-- the first handshake that carries a counter sets the one that is due
after_counter_lem :
    (c h k n due : ℕ) → after_counter (n % counters) ≡ due → one_more (still true c h k false 0) (sample 51 n) ≡ still true (suc c) (suc h) k true due
after_counter_lem c h k n due e = rw (add-one c, add-one h, add-zero k) (ap (still true (suc c) (suc h) k true) e)

-- a cycle with valid and ready both 0
after_idle : (s : Bool) (c h k : ℕ) (counted : Bool) (due : ℕ) → one_more (still s c h k counted due) (sample 0 0) ≡ still s (suc c) h k counted due
after_idle true c h k counted due = rw (add-one c, add-zero h, add-zero k)
after_idle false c h k counted due = rw (add-one c, add-zero h, add-zero k)

-- a stalled cycle
after_stall :
    (s : Bool) (c h k : ℕ) (p : Payload) (counted : Bool) (due : ℕ) →
    one_more (still s c h k counted due) (record { valid = true; ready = false; clear = false; payload = p })
    ≡ clean_with s (suc c) h k true p counted due
after_stall true c h k p counted due = rw (add-one c, add-zero h, add-zero k)
after_stall false c h k p counted due = rw (add-one c, add-zero h, add-zero k)

-- the breaches of rules 4, 2 and seq, and a cycle past a breach
after_dropped : (s : Bool) (c h k : ℕ) → one_more (clean_with s c h k true zeros false 0) (sample 0 0) ≡ broken_with s (suc c) 4 c h k
after_dropped s c h k = rw (add-one c)

after_changed : (s : Bool) (c h k : ℕ) → one_more (clean_with s c h k true zeros false 0) (sample 1 1) ≡ broken_with s (suc c) 2 c h k
after_changed s c h k = rw (add-one c)

after_repeated : (c h k : ℕ) → one_more (still true c h k true 1) (sample 51 0) ≡ broken_with true (suc c) 100 c h k
after_repeated c h k = rw (add-one c)

after_breach : (s : Bool) (c rule cycle h k : ℕ) → one_more (broken_with s c rule cycle h k) (sample 0 0) ≡ broken_with s (suc c) rule cycle h k
after_breach s c rule cycle h k = rw (add-one c)

-- idle cycles after a cycle that did not stall
idle_reached :
    (s : Bool) (h k : ℕ) (counted : Bool) (due : ℕ) (a b : ℕ) → a ≤ b → b ≤ max_seen →
    Reached (still s a h k counted due) → Reached (still s b h k counted due)
idle_reached s h k counted due a b from seen =
    later (λ (c : ℕ). Reached (still s c h k counted due)) a b
    (λ c below r. reached_next (still s c h k counted due) 0 0 _ (after_idle s c h k counted due) (omega arith) (omega arith) refl (omega arith) r)
    from

-- clean, with no counter: clear cycles, handshakes that carry none, then idle cycles
uncounted_reached : (s : Bool) (c h k : ℕ) → h + k ≤ c → c ≤ max_seen → Reached (still s c h k false 0)
uncounted_reached s c h k among seen = idle_reached s h k false 0 (h + k) c among seen plain
  where
    cleared : Reached (still s k 0 k false 0)
    cleared =
        later (λ (n : ℕ). Reached (still s n 0 n false 0)) 0 k
        (λ n below r. reached_next (still s n 0 n false 0) 4 0 _ (after_clear s n 0 n) (omega arith) (omega arith) refl (omega arith) r)
        (omega arith) (fresh_reached s)

    plain : Reached (still s (h + k) h k false 0)
    plain =
        later (λ (n : ℕ). Reached (still s (n + k) n k false 0)) 0 h
        (λ n below r.
        reached_next (still s (n + k) n k false 0) 3 0 _ (rw (suc-add n k) (after_plain s (n + k) n k)) (omega arith) (omega arith) refl (omega arith) r)
        (omega arith) (rw (zero-add k) cleared)

-- clean, with a counter: the last of the handshakes carries the one before the one that is due
counted_reached : (c h k due : ℕ) → 0 < h → h + k ≤ c → c ≤ max_seen → due < counters → Reached (still true c h k true due)
counted_reached c zero k due some among seen fits = absurd (omega arith)
counted_reached c (suc h) k due some among seen fits =
    let before = (due + 65535) % counters in
    idle_reached true (suc h) k true due (suc (h + k)) c (omega arith) seen
    (reached_next (still true (h + k) h k false 0) 51 before _ (after_counter_lem (h + k) h k before due (omega arith)) (omega arith) (omega arith) refl
    (omega arith) (uncounted_reached true (h + k) h k (omega arith) (omega arith)))

-- a stalled cycle that shows a payload
stalled_reached :
    (s : Bool) (c h k : ℕ) (p : Payload) (counted : Bool) (due : ℕ) → p.strb ≤ max_strb → p.«data» < 2 ^ 32 → c < max_seen →
    Reached (still s c h k counted due) → Reached (clean_with s (suc c) h k true p counted due)
stalled_reached s c h k p counted due strb fits room r =
    reached_next (still s c h k counted due) (1 + 16 * p.strb) p.«data» _
    (ap (one_more (still s c h k counted due)) (stall_sample p) ∙ after_stall s c h k p counted due) (omega arith) fits
    (ne_eqb ((1 + 16 * p.strb) / 8 % 2) 1 (omega arith)) room r

-- a stalled cycle that shows zeros, for a breach in the next
stall_reached : (s : Bool) (c h k : ℕ) → h + k < c → c ≤ max_seen → Reached (clean_with s c h k true zeros false 0)
stall_reached s zero h k before room = absurd (omega arith)
stall_reached s (suc c) h k before room =
    stalled_reached s c h k zeros false 0 (omega arith) (omega arith) room (uncounted_reached s c h k (omega arith) (omega arith))

-- broken in the cycle after a stalled one: by rule 4, with valid 0, or by rule 2, with another word
stall_broken : (s : Bool) (number c h k : ℕ) → AfterStall number c (h + k) → c < max_seen → Reached (broken_with s (suc c) number c h k)
stall_broken s number c h k a room = ⊎_elim (λ (e : number ≡ 4). rw e dropped) (λ (e : number ≡ 2). rw e changed) a.rule
  where
    before : Reached (clean_with s c h k true zeros false 0)
    before = stall_reached s c h k a.before (omega arith)

    dropped : Reached (broken_with s (suc c) 4 c h k)
    dropped = reached_next _ 0 0 _ (after_dropped s c h k) (omega arith) (omega arith) refl room before

    changed : Reached (broken_with s (suc c) 2 c h k)
    changed = reached_next _ 1 1 _ (after_changed s c h k) (omega arith) (omega arith) refl room before

-- broken by rule seq: counter 0 is carried once more where 1 is due
seq_broken : (s : Bool) (number c h k : ℕ) → BySeq s number c h (h + k) → c < max_seen → Reached (broken_with s (suc c) number c h k)
seq_broken s number c h k q room =
    rw (q.rule, q.switched)
    (reached_next (still true c h k true 1) 51 0 _ (after_repeated c h k) (omega arith) (omega arith) refl room
    (counted_reached c h k 1 q.carried q.before (omega arith) (omega arith)))

-- idle cycles past a breach
past_reached :
    (s : Bool) (rule cycle h k : ℕ) (a b : ℕ) → a ≤ b → b ≤ max_seen → Reached (broken_with s a rule cycle h k) → Reached (broken_with s b rule cycle h k)
past_reached s rule cycle h k a b from seen =
    later (λ (c : ℕ). Reached (broken_with s c rule cycle h k)) a b
    (λ c below r. reached_next (broken_with s c rule cycle h k) 0 0 _ (after_breach s c rule cycle h k) (omega arith) (omega arith) refl (omega arith) r)
    from

module _ (m : Monitor) (seen : m.cycles ≤ max_seen) where
  module _ (c : Clean m) where
    -- a counter came only where seq is on
    switched : m.counted ≡ true → m.seq ≡ true
    switched t = ⊎_elim (λ on. on) (λ off. absurd (not_both m.counted t (c.unswitched off))) (either m.seq)

    -- up to the last cycle: its clear cycles, its handshakes, its counter, and idle cycles
    counts_reached :
        (cycles : ℕ) → m.handshakes + m.clears ≤ cycles → cycles ≤ max_seen →
        Reached (still m.seq cycles m.handshakes m.clears m.counted m.due)
    counts_reached cycles among room =
        ⊎_elim (λ (t : m.counted ≡ true). rw (t, switched t) (counted_reached cycles m.handshakes m.clears m.due (c.carried t) among room c.due))
        (λ (f : m.counted ≡ false). rw (f, c.uncounted f) (uncounted_reached m.seq cycles m.handshakes m.clears among room)) (either m.counted)

    -- the last cycle stalled, or showed nothing
    shown_reached :
        (cycles : ℕ) (stall : Bool) (p : Payload) → cycles ≤ max_seen →
        (stall ≡ true → m.handshakes + m.clears < cycles) → (stall ≡ false → m.handshakes + m.clears ≤ cycles) →
        (stall ≡ false → p ≡ zeros) → p.strb ≤ max_strb → p.«data» < 2 ^ 32 →
        Reached (clean_with m.seq cycles m.handshakes m.clears stall p m.counted m.due)
    shown_reached cycles false p room stalled_among among unstalled strb fits = rw (unstalled refl) (counts_reached cycles (among refl) room)
    shown_reached zero true p room stalled_among among unstalled strb fits = absurd (omega (arith, stalled_among refl))
    shown_reached (suc n) true p room stalled_among among unstalled strb fits =
        stalled_reached m.seq n m.handshakes m.clears p m.counted m.due strb fits room
        (counts_reached n (omega (arith, stalled_among refl)) (omega arith))

    -- it is the record of its fields
    is_clean_lem : clean_with m.seq m.cycles m.handshakes m.clears m.stalled m.payload m.counted m.due ≡ m
    is_clean_lem = rw (c.verdict, c.rule, c.cycle)

    -- bursts lead to a clean record
    clean_reached : m.payload.«data» < 2 ^ 32 → Reached m
    clean_reached fits =
        subst Reached is_clean_lem
        (shown_reached m.cycles m.stalled m.payload seen c.stalled_among c.among c.unstalled c.strb fits)

  module _ (b : Broken m) where
    -- it is the record of its fields
    is_broken_lem : broken_with m.seq m.cycles m.rule m.cycle m.handshakes m.clears ≡ m
    is_broken_lem = rw (b.verdict, b.unstalled, b.uncounted, b.payload, b.due)

    -- the cycle of the breach is the last
    breach_reached : Reached (broken_with m.seq (suc m.cycle) m.rule m.cycle m.handshakes m.clears)
    breach_reached =
        let room : m.cycle < max_seen = omega (arith, b.seen) in
        ⊎_elim (λ a. stall_broken m.seq m.rule m.cycle m.handshakes m.clears a room)
        (λ q. seq_broken m.seq m.rule m.cycle m.handshakes m.clears q room) b.by

    -- bursts lead to a broken record
    broken_reached : Reached m
    broken_reached =
        subst Reached is_broken_lem
        (past_reached m.seq m.rule m.cycle m.handshakes m.clears (suc m.cycle) m.cycles b.seen seen breach_reached)

-- the theorem: the tests of refusal 6 accept what bursts lead to, and nothing else
pub refused_exactly_lem : RefusedExactly
refused_exactly_lem m seen fits = (λ e. ⊎_elim (λ c. clean_reached m seen c fits) (λ b. broken_reached m seen b) (legal_says m e), reached_legal m)
