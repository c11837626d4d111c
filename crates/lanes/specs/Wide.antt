-- Request T-01: a wide payload, its lanes, and lanes put together. Lane 0 is the lowest 32 bits, with its four strobes lowest.
-- Assumes nothing.
use Rattle.std.specs.Prelude.{ℕ, zero, suc, ◌+◌, ◌*◌, ◌/◌, ◌%◌, ◌^◌, get_or}
use Rattle.signals.specs.declared.Payload.{Payload}
use Rattle.lanes.specs.declared.Wide.{Wide}
use Rattle.lanes.specs.Lanes.{per_lane}

-- lane i: word i, with the strobe bits 4 i to 4 i + 3
abbrev pub lane : Wide → ℕ → Payload
lane w i = record { «data» = get_or w.«data» i 0; strb = w.strb / 16 ^ i % 16 }

-- the strobes of lanes 0 to n - 1 side by side, those of lane i from bit 4 i on
abbrev pub strobes_below : (payload : ℕ → Payload) → ℕ → ℕ
strobes_below payload zero = 0
strobes_below payload (suc n) = (payload n).strb * 16 ^ n + strobes_below payload n

-- lanes put together; past them data and strobes are 0
abbrev pub together : (lanes : ℕ) → (payload : ℕ → Payload) → Wide
together lanes payload =
    record { «data» = per_lane lanes 0 (λ i. (payload i).«data»); strb = strobes_below payload lanes }

-- what is shown when valid is 0
abbrev pub wide_zeros : Wide
wide_zeros = record { «data» = per_lane 0 0 (λ i. 0); strb = 0 }
