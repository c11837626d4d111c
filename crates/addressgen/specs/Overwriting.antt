-- Request T-07: when a store overwrites itself, which is refused with 11. Assumes nothing.
use Rattle.std.specs.Prelude.{ℕ, ◌*◌, Bool, not, ◌&&◌, ◌||◌, ◌==◌, nat_lt}
use Rattle.addressgen.specs.declared.Settings.{Settings}
use Rattle.addressgen.specs.Stepping.{bit0, bit1, Dimension, dimension0, dimension1, dimension2}

abbrev pub stride : Settings → Dimension → ℕ
stride s dimension0 = s.s0
stride s dimension1 = s.s1
stride s dimension2 = s.s2

-- whether a dimension advances, by the settings alone
abbrev pub advances : Settings → Dimension → Bool
-- s0's with mask bit 0 clear and total above 1, or bit 0 set and both d0 and total above 1
advances s dimension0 = not (bit0 s) && nat_lt 1 s.total || bit0 s && nat_lt 1 s.d0 && nat_lt 1 s.total
-- s1's with bit 0 set and total above d0, unless both bits are set and d1 is 1
advances s dimension1 = bit0 s && nat_lt s.d0 s.total && not (bit0 s && bit1 s && s.d1 == 1)
-- s2's with both bits set and total above d0 times d1, the product exact
advances s dimension2 = bit0 s && bit1 s && nat_lt (s.d0 * s.d1) s.total

-- it advances, and its stride is 0
abbrev pub advances_in_place : Settings → Dimension → Bool
advances_in_place s d = advances s d && stride s d == 0

-- refusal 11: a store, when a dimension that advances has stride 0
abbrev pub overwrites_itself : Settings → Bool
overwrites_itself s =
    s.store && (advances_in_place s dimension0 || advances_in_place s dimension1 || advances_in_place s dimension2)
