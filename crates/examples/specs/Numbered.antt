-- Request T-14: addresses by their number and the addresses that two generators share, N1 to N8 and O1 to O6, as one list of questions with
-- their answers. `proofs/Numbered.antt` has the claim: these are the definitions' answers. Assumes nothing.
use Rattle.std.specs.Prelude.{ℕ, true, false, List, [], ◌∷◌}
use Rattle.std.proofs.Math.Option.{none}
use Rattle.signals.specs.Tables.{first_applying}
use Rattle.addressgen.specs.declared.Settings.{Settings}
use Rattle.address_at.specs.ByNumber.{address_of}
use Rattle.address_at.specs.AddressAt as address-at
use Rattle.address_at.specs.AddressAt.{answer_by}
use Rattle.address_at.specs.Overlap.{grounds, listed}
use Rattle.examples.specs.Asked.{Example, ◌gives◌, unless_refused}
use Rattle.examples.specs.Bench.{p9_settings, p12_settings, transfer}

-- the address of an iteration, or the iterations that share theirs with a second generator, with so many words of room
pub data Question : Type 0 where
  at : Settings → (i : ℕ) → Question
  overlap : (first second : Settings) → (room : ℕ) → Question

pub data Answer : Type 0 where
  address : ℕ → Answer
  lists : List ℕ → Answer
  refused : ℕ → Answer

abbrev address_answer : address-at.Answer → Answer
address_answer found = unless_refused refused found.refusal (address found.address)

abbrev pub answer : Question → Answer
answer (at s i) = address_answer (answer_by address_of s i)
answer (overlap first second room) =
    unless_refused refused (first_applying (grounds first second room)) (lists (listed address_of first second none))

-- a scan of 65,536 words in planes of 64 lines of 128
abbrev scan : Settings
scan =
    record {
      base = 0x10000000;
      d0 = 128;
      d1 = 64;
      total = 65536;
      s0 = 4;
      s1 = 0x400;
      s2 = 0x20000;
      mask = 3;
      store = false;
    }

abbrev pub examples : List (Example Question Answer)
examples =
    -- N1 address 40,000 of a scan: word 64 of line 56 of plane 4
    at scan 40000 gives address 0x1008e100
    -- N2 P9 by number: its first, the second line's first, the second plane's first, its last
    ∷ at (p9_settings 3) 0 gives address 0x1000
    ∷ at (p9_settings 3) 3 gives address 0x1020
    ∷ at (p9_settings 3) 6 gives address 0x1100
    ∷ at (p9_settings 3) 7 gives address 0x1104
    -- N3 P10 and P11: two dimensions, and one, under mask 2 as under 0
    ∷ at (p9_settings 1) 7 gives address 0x1044
    ∷ at (p9_settings 0) 7 gives address 0x101c
    ∷ at (p9_settings 2) 7 gives address 0x101c
    -- N4 P12: the address wraps
    ∷ at p12_settings 3 gives address 0xfffffffc
    -- N5 one past the last is refused with 8; so is every number with total 0
    ∷ at (p9_settings 3) 8 gives refused 8
    ∷ at (transfer false 3 3 2 0 4 0x20 0x100) 0 gives refused 8
    -- N6 10 and 11 come before it
    ∷ at (p9_settings 4) 8 gives refused 10
    ∷ at (transfer true 3 3 2 8 0 0x20 0x100) 8 gives refused 11
    -- N7 a plane of 2^32, whose end no iteration reaches
    ∷ at (transfer false 3 0x10000 0x10000 0xffffffff 4 0x20 0x100) 0xfffffffe gives address 0x240fd8
    -- N8 a plane of 2^32 + 65,536: iteration 65,537 is in its second line
    ∷ at (transfer false 3 0x10001 0x10000 0x20000 4 0x20 0x100) 65537 gives address 0x1020
    -- O1 P9 and P11 share P9's first line, either way round
    ∷ overlap (p9_settings 3) (p9_settings 0) 8 gives lists (0 ∷ 1 ∷ 2 ∷ [])
    ∷ overlap (p9_settings 0) (p9_settings 3) 8 gives lists (0 ∷ 1 ∷ 2 ∷ [])
    -- O2 the numbers are the first's: its lines begin in iterations 0, 3 and 6
    ∷ overlap (p9_settings 1) (transfer false 0 0 0 3 0x20 0 0) 8 gives lists (0 ∷ 3 ∷ 6 ∷ [])
    -- O3 an address that comes twice is listed twice
    ∷ overlap (transfer false 0 0 0 3 0 0 0) (p9_settings 3) 3 gives lists (0 ∷ 1 ∷ 2 ∷ [])
    -- O4 addresses are compared, not words: 0x1002 is none of P9's
    ∷ overlap (transfer false 0 0 0 4 2 0 0) (p9_settings 3) 4 gives lists (0 ∷ 2 ∷ [])
    -- O5 4,097 iterations of either are refused with 3, before 10; less room than the first has iterations with 7, though 3 are found
    ∷ overlap (p9_settings 4) (transfer false 0 0 0 4097 4 0 0) 0 gives refused 3
    ∷ overlap (p9_settings 3) (p9_settings 0) 7 gives refused 7
    -- O6 the first's 11 comes before the second's 10, and both before 7
    ∷ overlap (transfer true 3 3 2 8 0 0x20 0x100) (p9_settings 4) 0 gives refused 11
    ∷ overlap (p9_settings 3) (p9_settings 4) 0 gives refused 10
    ∷ []
