-- Document 01, "Address generator": the start state, and one iteration: the address that it yields and the state after it.
-- Assumes nothing.
use Rattle.std.specs.Prelude.{ℕ, zero, suc, ◌+◌, ◌/◌, ◌%◌, ◌^◌, Bool, cond, not, ◌||◌, List, ◌==◌, nat_lt}
use Rattle.signals.specs.Sequences.{entries_below}
use Rattle.addressgen.specs.declared.Settings.{Settings}
use Rattle.addressgen.specs.declared.State.{State}

-- all sums but ov wrap at 2^32
infixl 65 ◌⊕◌
abbrev pub ◌⊕◌ : ℕ → ℕ → ℕ
x ⊕ y = (x + y) % 2 ^ 32

-- mask bit 0
abbrev pub bit0 : Settings → Bool
bit0 s = s.mask % 2 == 1

-- mask bit 1
abbrev pub bit1 : Settings → Bool
bit1 s = s.mask / 2 % 2 == 1

-- addresses start at 0, counters at 1, ov at 0
abbrev pub start : State
start = record { a0 = 0; a1 = 0; a2 = 0; c0 = 1; c1 = 1; ov = 0 }

-- base + a0 if mask bit 0 is 0; else base + a0 + a1 if bit 1 is 0; else base + a0 + a1 + a2
abbrev pub address : Settings → State → ℕ
address s t =
    cond (not (bit0 s)) (s.base ⊕ t.a0)
    (cond (not (bit1 s)) (s.base ⊕ t.a0 ⊕ t.a1)
    (s.base ⊕ t.a0 ⊕ t.a1 ⊕ t.a2))

-- The three dimensions.
pub data Dimension : Type 0 where
  dimension0 : Dimension
  dimension1 : Dimension
  dimension2 : Dimension

-- an iteration advances along dimension 0 if c0 < d0 or bit 0 is 0; else along dimension 1 if c1 < d1 or bit 1 is 0; else along
-- dimension 2
abbrev pub along : Settings → State → Dimension
along s t =
    cond (nat_lt t.c0 s.d0 || not (bit0 s)) dimension0
    (cond (nat_lt t.c1 s.d1 || not (bit1 s)) dimension1
    dimension2)

-- a0 gains s0 and c0 gains 1; or a0 = 0, a1 gains s1, c0 = 1, c1 gains 1; or a0 = a1 = 0, a2 gains s2, c0 = c1 = 1; then ov gains 1
abbrev pub advanced : Settings → State → Dimension → State
advanced s t dimension0 =
    record { a0 = t.a0 ⊕ s.s0; a1 = t.a1; a2 = t.a2; c0 = t.c0 ⊕ 1; c1 = t.c1; ov = t.ov + 1 }
advanced s t dimension1 =
    record { a0 = 0; a1 = t.a1 ⊕ s.s1; a2 = t.a2; c0 = 1; c1 = t.c1 ⊕ 1; ov = t.ov + 1 }
advanced s t dimension2 =
    record { a0 = 0; a1 = 0; a2 = t.a2 ⊕ s.s2; c0 = 1; c1 = 1; ov = t.ov + 1 }

-- the state after one iteration
abbrev pub next : Settings → State → State
next s t = advanced s t (along s t)

-- the state after so many iterations
abbrev pub after : Settings → State → ℕ → State
after s t zero = t
after s t (suc n) = next s (after s t n)

-- the addresses that so many iterations yield
abbrev pub addresses : Settings → State → ℕ → List ℕ
addresses s t n = entries_below (λ i. address s (after s t i)) n
