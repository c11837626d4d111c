-- A control byte that is made of its fields reads back as them: the bits are at most 1, so that none reaches into the next. Assumes nothing.
use mathlib.Core.Path.{◌≡◌, refl}
use mathlib.Core.Bool.{Bool, true, false}
use Prim.Native.Nat.{ℕ, ◌+◌, ◌*◌, ◌/◌, ◌%◌}
use native.Mathlib.Omega.{arith}
use lib.Dec.{eqb}
use Rattle.signals.specs.Stream.{Sample, sample}
use Rattle.chain.specs.Calls.{bit, byte_of, control_byte, data_word}
use Rattle.chain.proofs.Bytes.{bit_most}

bit_reads : (b : Bool) → eqb (bit b) 1 ≡ b
bit_reads true = refl
bit_reads false = refl

byte_reads : (valid ready clear : Bool) (strb word : ℕ) →
    sample (byte_of valid ready clear strb) word
    ≡ record { valid = valid; ready = ready; clear = clear; payload = record { «data» = word; strb = strb } }
byte_reads valid ready clear strb word =
    let byte = byte_of valid ready clear strb in
    let bit0 : byte % 2 ≡ bit valid = omega (arith, bit_most valid) in
    let half : byte / 2 ≡ bit ready + 2 * bit clear + 8 * strb = omega (arith, bit_most valid) in
    let bit1 : (bit ready + 2 * bit clear + 8 * strb) % 2 ≡ bit ready = omega (arith, bit_most ready) in
    let quarter : byte / 4 ≡ bit clear + 4 * strb = omega (arith, bit_most valid, bit_most ready) in
    let bit2 : (bit clear + 4 * strb) % 2 ≡ bit clear = omega (arith, bit_most clear) in
    let high : byte / 16 ≡ strb = omega (arith, bit_most valid, bit_most ready, bit_most clear) in
    rw (bit0, half, bit1, quarter, bit2, high, bit_reads valid, bit_reads ready, bit_reads clear)

-- a sample that was written, read again
pub sample_reads : (s : Sample) → sample (control_byte s) (data_word s) ≡ s
sample_reads s = byte_reads s.valid s.ready s.clear s.payload.strb s.payload.«data»
