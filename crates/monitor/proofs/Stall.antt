-- The control byte of a stalled cycle is one more than sixteen times its strobe: bits 0 to 2 are valid 1, ready 0 and clear 0.
-- Assumes nothing.
use Prim.Native.Nat.{◌+◌, ◌*◌, ◌/◌, ◌%◌}
use native.Mathlib.Omega.{arith}
use mathlib.Core.Bool.{true, false}
use mathlib.Core.Path.{◌≡◌}
use borrow.Author.Tests.{eq-eqb, ne_eqb}
use Rattle.signals.specs.Stream.{sample}
use Rattle.signals.specs.declared.Payload.{Payload}

-- a stalled cycle that shows a payload, as it is recorded
pub stall_sample : (p : Payload) → sample (1 + 16 * p.strb) p.«data» ≡ record { valid = true; ready = false; clear = false; payload = p }
stall_sample p =
    let valid = eq-eqb ((1 + 16 * p.strb) % 2) 1 (omega arith) in
    let ready = ne_eqb ((1 + 16 * p.strb) / 2 % 2) 1 (omega arith) in
    let clear = ne_eqb ((1 + 16 * p.strb) / 4 % 2) 1 (omega arith) in
    let strb : (1 + 16 * p.strb) / 16 ≡ p.strb = omega arith in
    λ i. record { valid = valid i; ready = ready i; clear = clear i; payload = record { «data» = p.«data»; strb = strb i } }
