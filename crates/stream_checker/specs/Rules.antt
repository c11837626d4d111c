-- Document 01, "Stream rules", with requests T-04 and T-09: what it means that a cycle of a stream breaks a rule. Assumes nothing.
use Rattle.std.specs.Prelude.{ℕ, zero, suc, ◌+◌, ◌%◌, Bool, false, cond, not, ◌&&◌, List, [], ◌∷◌, eqb}
use Rattle.std.proofs.Math.Option.{Option, none, some}
use Rattle.signals.specs.Payloads.{strobed, same_payload}
use Rattle.signals.specs.Stream.{Sample, clear_cycle, handshake}
use Rattle.signals.specs.Tables.{Row, ◌⇐◌}
use Rattle.signals.specs.Written.{RuleName, number, seq}

-- A cycle that lays a duty on the next: valid 1 and ready 0. A clear cycle lays none.
abbrev pub stalled : Sample → Bool
stalled before = not (clear_cycle before) && (before.valid && not before.ready)

-- Rule 4: valid must be 1 in the next cycle.
abbrev pub breaks_held : (before now : Sample) → Bool
breaks_held before now = stalled before && not now.valid

-- Rule 2: if valid is 1 in the next cycle, data and strb equal those before.
abbrev pub breaks_stable : (before now : Sample) → Bool
breaks_stable before now = stalled before && (now.valid && not (same_payload now.payload before.payload))

-- A rule of two neighbouring cycles, in cycle c of a trace; the first cycle has no predecessor.
abbrev pub between : ((before now : Sample) → Bool) → (trace : ℕ → Sample) → ℕ → Bool
between breaks trace zero = false
between breaks trace (suc c) = breaks (trace c) (trace (suc c))

-- The low 16 bits of data are the counter; after 65,535 comes 0.
abbrev pub counters : ℕ
counters = 65536

abbrev pub counter : Sample → ℕ
counter s = s.payload.«data» % counters

abbrev pub after_counter : ℕ → ℕ
after_counter n = (n + 1) % counters

-- A handshake carries a counter only if the strobes of bytes 0 and 1 are both 1; others are skipped.
abbrev pub carries_counter : Sample → Bool
carries_counter s = handshake s && (strobed s.payload.strb 0 && strobed s.payload.strb 1)

-- A trace is a sample for each cycle. The counter that was carried last before cycle c, if any was since the last clear cycle.
abbrev pub last_counter : (ℕ → Sample) → ℕ → Option ℕ
last_counter trace zero = none
last_counter trace (suc c) =
    cond (clear_cycle (trace c)) none (cond (carries_counter (trace c)) (some (counter (trace c))) (last_counter trace c))

-- n does not follow the counter before it; the first is free
abbrev pub out_of_seq : Option ℕ → ℕ → Bool
out_of_seq none n = false
out_of_seq (some before) n = not (eqb n (after_counter before))

-- Rule seq: each counter after the first is the last counter seen plus one, whatever was skipped between them.
abbrev pub breaks_seq : (ℕ → Sample) → ℕ → Bool
breaks_seq trace c = carries_counter (trace c) && out_of_seq (last_counter trace c) (counter (trace c))

-- The rules of one cycle in their order: 4, 2, and seq when it is switched on, each with whether it is broken.
abbrev pub in_order : (seq_on : Bool) → (held stable sequence : Bool) → List (Row RuleName)
in_order seq_on held stable sequence = number 4 ⇐ held ∷ number 2 ⇐ stable ∷ cond seq_on (seq ⇐ sequence ∷ []) []

-- A clear cycle is not judged.
abbrev pub unless_clear : Sample → List (Row RuleName) → List (Row RuleName)
unless_clear now rows = cond (clear_cycle now) [] rows

-- the rules in cycle c of a trace
abbrev pub rules : (seq_on : Bool) → (ℕ → Sample) → ℕ → List (Row RuleName)
rules seq_on trace c =
    unless_clear (trace c) (in_order seq_on (between breaks_held trace c) (between breaks_stable trace c) (breaks_seq trace c))
