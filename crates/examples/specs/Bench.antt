-- Document 01, "Bench examples": P1 to P12, P4 and P5 with null bytes between as request T-04 asks, C1 to C6 with clear cycles as
-- request T-09 asks, and S1 to S8 with stores as request T-07 asks, as one list of questions with the answers that the papers give
-- to them. `proofs/Bench.antt` has the claim: these are the definitions' answers. Assumes nothing.
use Rattle.std.specs.Prelude.{ℕ, Bool, true, false, List, [], ◌∷◌, map, length}
use Rattle.signals.specs.Judging.{clean, broken}
use Rattle.signals.specs.Written.{RuleName, number, seq, Judgement}
use Rattle.signals.specs.Written as written
use Rattle.stream_checker.specs.Verdicts as stream-checker
use Rattle.stream_checker.specs.Verdicts.{check_stream}
use Rattle.mem_checker.specs.Rules.{Protocol, mem, mem_decoupled}
use Rattle.mem_checker.specs.Verdicts as mem-checker
use Rattle.mem_checker.specs.Verdicts.{check_mem}
use Rattle.addressgen.specs.declared.Settings.{Settings}
use Rattle.addressgen.specs.Stepping.{start, addresses}
use Rattle.addressgen.specs.Run as addressgen
use Rattle.addressgen.specs.Run.{ran_of}
use Rattle.examples.specs.Asked.{Example, ◌gives◌, unless_refused}

-- a stream trace with its switch: control byte and data of each cycle; a memory trace with its protocol: control byte and add of
-- each cycle; a generator at its start with its settings, asked for so many addresses
pub data Question : Type 0 where
  stream : (seq_on : Bool) → List (ℕ × ℕ) → Question
  memory : Protocol → List (ℕ × ℕ) → Question
  generator : Settings → ℕ → Question

-- a verdict with the handshakes, the clear cycles, 0 for a memory trace, and whether the trace is open, false for a stream's;
-- or the iteration count and the addresses, or the refusal of a run
pub data Answer : Type 0 where
  judged : Judgement → (clears : ℕ) → (is_open : Bool) → Answer
  yielded : (count : ℕ) → List ℕ → Answer
  not_run : (refusal : ℕ) → Answer

abbrev is_clean : (handshakes clears : ℕ) → (is_open : Bool) → Answer
is_clean handshakes clears is_open = judged (record { verdict = written.judged clean; handshakes = handshakes }) clears is_open

abbrev is_broken : RuleName → (cycle handshakes clears : ℕ) → Answer
is_broken rule cycle handshakes clears =
    judged (record { verdict = written.judged (broken rule cycle); handshakes = handshakes }) clears false

abbrev is_refused : ℕ → Answer
is_refused n = judged (record { verdict = written.refused n; handshakes = 0 }) 0 false

-- the two columns of a trace
abbrev pub firsts : List (ℕ × ℕ) → List ℕ
firsts cycles = map (λ c. c.0) cycles

abbrev pub seconds : List (ℕ × ℕ) → List ℕ
seconds cycles = map (λ c. c.1) cycles

abbrev stream_answer : stream-checker.Answer → Answer
stream_answer a = judged a.judgement a.clears false

abbrev mem_answer : mem-checker.Answer → Answer
mem_answer a = judged a.judgement 0 a.«open»

abbrev generator_answer : Settings → addressgen.Answer → Answer
generator_answer s ran = unless_refused not_run ran.refusal (yielded ran.count (addresses s start ran.count))

-- the definitions' answer; of a memory trace's data and r_data only the lengths count, and the generator's buffer has n words
abbrev pub answer : Question → Answer
answer (stream seq_on cycles) = stream_answer (check_stream (firsts cycles) (seconds cycles) seq_on)
answer (memory protocol cycles) =
    mem_answer (check_mem protocol (firsts cycles) (seconds cycles) (length cycles) (length cycles))
answer (generator s n) = generator_answer s (ran_of s start n n)

-- the settings of P9 to P11, which are loads and differ in the mask alone
abbrev pub p9_settings : (mask : ℕ) → Settings
p9_settings mask =
    record { base = 0x1000; d0 = 3; d1 = 2; total = 8; s0 = 4; s1 = 0x20; s2 = 0x100; mask = mask; store = false }

abbrev pub p12_settings : Settings
p12_settings = record { base = 8; d0 = 0; d1 = 0; total = 4; s0 = 0xfffffffc; s1 = 0; s2 = 0; mask = 0; store = false }

-- a store, or a load, from P9's base
abbrev pub transfer : (store : Bool) (mask d0 d1 total s0 s1 s2 : ℕ) → Settings
transfer store mask d0 d1 total s0 s1 s2 =
    record { base = 0x1000; d0 = d0; d1 = d1; total = total; s0 = s0; s1 = s1; s2 = s2; mask = mask; store = store }

-- Where the papers name no handshakes or no clears, they are those of the rules. Each generator is asked for 8 addresses.
abbrev pub examples : List (Example Question Answer)
examples =
    -- P1 empty stream trace: clean, 0
    stream false [] gives is_clean 0 0 false
    -- P2 the trace of "Bench text": broken, rule 2, at 4, handshakes 1
    ∷ stream false ((0x02, 0x00) ∷ (0xf1, 0x11) ∷ (0xf3, 0x11) ∷ (0xf1, 0x12) ∷ (0xf3, 0x13) ∷ []) gives
    is_broken (number 2) 4 1 0
    -- P3 valid 1 ready 0, then valid 0 with other data: rule 4 at 1
    ∷ stream false ((0xf1, 0x11) ∷ (0xf0, 0x12) ∷ []) gives is_broken (number 4) 1 0 0
    -- P4 counters 65535 then 0: clean
    ∷ stream true ((0xf3, 65535) ∷ (0xf3, 0) ∷ []) gives is_clean 2 0 false
    -- P4 with a handshake of strb 14 between: it is skipped, and counts
    ∷ stream true ((0xf3, 65535) ∷ (0xe3, 5) ∷ (0xf3, 0) ∷ []) gives is_clean 3 0 false
    -- P5 a counter twice running: seq at the second
    ∷ stream true ((0xf3, 7) ∷ (0xf3, 7) ∷ []) gives is_broken seq 1 1 0
    -- P5 with a handshake of strb 14 between: seq at the second counter
    ∷ stream true ((0xf3, 7) ∷ (0xe3, 9) ∷ (0xf3, 7) ∷ []) gives is_broken seq 2 2 0
    -- P6 read handshake, then r_valid 0: rule 2 at 1
    ∷ memory mem ((0xf7, 0) ∷ (0x00, 0) ∷ []) gives is_broken (number 2) 1 1 0
    -- P7 read handshake alone: clean, open
    ∷ memory mem ((0xf7, 0) ∷ []) gives is_clean 1 0 true
    -- P8 decoupled read then write handshake: rule 4 at 1
    ∷ memory mem_decoupled ((0xf7, 0) ∷ (0xf3, 0) ∷ []) gives is_broken (number 4) 1 1 0
    -- P9 base 0x1000, d0 3, d1 2, s0 4, s1 0x20, s2 0x100, total 8, mask 3: 1000 1004 1008 1020 1024 1028 1100 1104
    ∷ generator (p9_settings 3) 8 gives
    yielded 8 (0x1000 ∷ 0x1004 ∷ 0x1008 ∷ 0x1020 ∷ 0x1024 ∷ 0x1028 ∷ 0x1100 ∷ 0x1104 ∷ [])
    -- P10 the same, mask 1: last two 1040 1044
    ∷ generator (p9_settings 1) 8 gives
    yielded 8 (0x1000 ∷ 0x1004 ∷ 0x1008 ∷ 0x1020 ∷ 0x1024 ∷ 0x1028 ∷ 0x1040 ∷ 0x1044 ∷ [])
    -- P11 mask 2: 1000 to 101c by 4
    ∷ generator (p9_settings 2) 8 gives
    yielded 8 (0x1000 ∷ 0x1004 ∷ 0x1008 ∷ 0x100c ∷ 0x1010 ∷ 0x1014 ∷ 0x1018 ∷ 0x101c ∷ [])
    -- P12 base 8, s0 0xfffffffc, mask 0, total 4: 8 4 0 fffffffc
    ∷ generator p12_settings 8 gives yielded 4 (8 ∷ 4 ∷ 0 ∷ 0xfffffffc ∷ [])
    -- Request T-09. C1 P3 with a clear between: clean, clears 1
    ∷ stream false ((0xf1, 0x11) ∷ (0x04, 0) ∷ (0xf0, 0x12) ∷ []) gives is_clean 0 1 false
    -- C2 a stall, a clear, and valid 1 with other data: clean
    ∷ stream false ((0xf1, 0x11) ∷ (0x04, 0) ∷ (0xf3, 0x12) ∷ []) gives is_clean 1 1 false
    -- C3 counters 7, a clear, 9, which is free, and 10: clean; then 12: seq at it
    ∷ stream true ((0xf3, 7) ∷ (0x04, 0) ∷ (0xf3, 9) ∷ (0xf3, 10) ∷ []) gives is_clean 3 1 false
    ∷ stream true ((0xf3, 7) ∷ (0x04, 0) ∷ (0xf3, 9) ∷ (0xf3, 10) ∷ (0xf3, 12) ∷ []) gives is_broken seq 4 3 1
    -- C4 a clear that shows valid 1, ready 1 and a counter: it is no handshake, and its counter is not seen
    ∷ stream true ((0xf3, 7) ∷ (0xf7, 20) ∷ (0xf3, 30) ∷ []) gives is_clean 2 1 false
    -- C5 bit 3 in a clear: refused with 2
    ∷ stream false ((0x0c, 0) ∷ []) gives is_refused 2
    -- C6 a clear before the breach counts, one after it does not: rule 4 at 2, clears 1
    ∷ stream false ((0x04, 0) ∷ (0xf1, 0x11) ∷ (0xf0, 0x11) ∷ (0x04, 0) ∷ []) gives is_broken (number 4) 2 0 1
    -- Request T-07. S1 P9 with total 7, as a store: its first seven
    ∷ generator (transfer true 3 3 2 7 4 0x20 0x100) 8 gives
    yielded 7 (0x1000 ∷ 0x1004 ∷ 0x1008 ∷ 0x1020 ∷ 0x1024 ∷ 0x1028 ∷ 0x1100 ∷ [])
    -- S2 P9 with s0 0, as a store: a line goes into one word, refused with 11; as a load it may repeat
    ∷ generator (transfer true 3 3 2 8 0 0x20 0x100) 8 gives not_run 11
    ∷ generator (transfer false 3 3 2 8 0 0x20 0x100) 8 gives
    yielded 8 (0x1000 ∷ 0x1000 ∷ 0x1000 ∷ 0x1020 ∷ 0x1020 ∷ 0x1020 ∷ 0x1100 ∷ 0x1100 ∷ [])
    -- S3 s1 0: one line of 3 is stored; total 4 is above d0, refused with 11
    ∷ generator (transfer true 1 3 0 3 4 0 0) 8 gives yielded 3 (0x1000 ∷ 0x1004 ∷ 0x1008 ∷ [])
    ∷ generator (transfer true 1 3 0 4 4 0 0) 8 gives not_run 11
    -- S4 s1 0, both bits and d1 1: dimension 1 does not advance
    ∷ generator (transfer true 3 2 1 4 4 0 0x100) 8 gives yielded 4 (0x1000 ∷ 0x1004 ∷ 0x1100 ∷ 0x1104 ∷ [])
    -- S5 s2 0: one plane of 2 times 2 is stored; total 5 is above it, refused with 11
    ∷ generator (transfer true 3 2 2 4 4 0x20 0) 8 gives yielded 4 (0x1000 ∷ 0x1004 ∷ 0x1020 ∷ 0x1024 ∷ [])
    ∷ generator (transfer true 3 2 2 5 4 0x20 0) 8 gives not_run 11
    -- S6 s2 0 and a plane of 2^32, which no total is above
    ∷ generator (transfer true 3 0x10000 0x10000 2 4 0x20 0) 8 gives yielded 2 (0x1000 ∷ 0x1004 ∷ [])
    -- S7 mask 2 is one-dimensional: only s0 is looked at
    ∷ generator (transfer true 2 0 0 3 4 0 0) 8 gives yielded 3 (0x1000 ∷ 0x1004 ∷ 0x1008 ∷ [])
    -- S8 no stride is 0, and a word is stored twice, since s0 = s1 or by wrapping: not refused
    ∷ generator (transfer true 1 2 0 3 4 4 0) 8 gives yielded 3 (0x1000 ∷ 0x1004 ∷ 0x1004 ∷ [])
    ∷ generator (transfer true 0 0 0 3 0x80000000 0 0) 8 gives yielded 3 (0x1000 ∷ 0x80001000 ∷ 0x1000 ∷ [])
    ∷ []
