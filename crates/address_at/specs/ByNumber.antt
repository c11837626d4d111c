-- Request T-14: the address of iteration i straight from the settings, by quotients and remainders. Assumes nothing.
use Rattle.std.specs.Prelude.{ℕ, ◌+◌, ◌*◌, ◌/◌, ◌%◌, ◌^◌, cond, not}
use Rattle.addressgen.specs.declared.Settings.{Settings}
use Rattle.addressgen.specs.Stepping.{bit0, bit1}

-- i steps of s0 if mask bit 0 is 0; else i % d0 of s0 and i / d0 of s1 if bit 1 is 0; else i % d0 of s0, i / d0 % d1 of s1 and
-- i / (d0 * d1) of s2: every product and sum exact, and the whole taken modulo 2^32
abbrev pub address_of : Settings → ℕ → ℕ
address_of s i =
    cond (not (bit0 s)) (s.base + i * s.s0)
    (cond (not (bit1 s)) (s.base + i % s.d0 * s.s0 + i / s.d0 * s.s1)
    (s.base + i % s.d0 * s.s0 + i / s.d0 % s.d1 * s.s1 + i / (s.d0 * s.d1) * s.s2))
    % 2 ^ 32
