-- Request T-10: source and sink realign, A1 to A11, as one list of questions with their answers. `proofs/Realigned.antt` has the claim:
-- these are the definitions' answers. Assumes nothing.
use Rattle.std.specs.Prelude.{ℕ, List, [], ◌∷◌}
use Rattle.realign.specs.Sink as ofSink
use Rattle.realign.specs.Source as ofSource
use Rattle.examples.specs.Asked.{Example, ◌gives◌, unless_refused}

-- a source's call, with so many packets of room; a sink's, with so many words and strobes of room
pub data Question : Type 0 where
  source : (address n : ℕ) → (words strobes : List ℕ) → (room : ℕ) → Question
  sink : (address : ℕ) → (packets : List ℕ) → (wordRoom strobeRoom : ℕ) → Question

pub data Answer : Type 0 where
  packets : List ℕ → Answer
  words : List ℕ → (strobes : List ℕ) → Answer
  refused : ℕ → Answer

abbrev source_answer : ofSource.Answer → Answer
source_answer made = unless_refused refused made.refusal (packets made.packets)

abbrev sink_answer : ofSink.Answer → Answer
sink_answer made = unless_refused refused made.refusal (words made.words made.strobes)

abbrev pub answer : Question → Answer
answer (source address n w s room) = source_answer (ofSource.source address n w s room)
answer (sink address p wordRoom strobeRoom) = sink_answer (ofSink.sink address p wordRoom strobeRoom)

-- two packets of eight bytes, 0x11 to 0x88 in address order
abbrev eight : List ℕ
eight = 0x44332211 ∷ 0x88776655 ∷ []

-- words that hold them from remainder 1 on, with null bytes that are not zero
abbrev loose : List ℕ
loose = 0x332211ee ∷ 0x77665544 ∷ 0xeeeeee88 ∷ []

abbrev pub examples : List (Example Question Answer)
examples =
    -- A1 to A4 a sink at each remainder
    sink 0x1000 eight 2 2 gives words eight (15 ∷ 15 ∷ [])
    ∷ sink 0x1001 eight 3 3 gives words (0x33221100 ∷ 0x77665544 ∷ 0x00000088 ∷ []) (14 ∷ 15 ∷ 1 ∷ [])
    ∷ sink 0x1002 eight 3 3 gives words (0x22110000 ∷ 0x66554433 ∷ 0x00008877 ∷ []) (12 ∷ 15 ∷ 3 ∷ [])
    ∷ sink 0x1003 eight 3 3 gives words (0x11000000 ∷ 0x55443322 ∷ 0x00887766 ∷ []) (8 ∷ 15 ∷ 7 ∷ [])
    -- A5 a source at remainders 1 and 0; null bytes may be anything
    ∷ source 0x1001 2 loose (14 ∷ 15 ∷ 1 ∷ []) 2 gives packets eight
    ∷ source 0x1000 2 eight (15 ∷ 15 ∷ []) 2 gives packets eight
    -- A6 one packet in two words, and in one
    ∷ sink 3 (0x44332211 ∷ []) 2 2 gives words (0x11000000 ∷ 0x00443322 ∷ []) (8 ∷ 7 ∷ [])
    ∷ source 3 1 (0x11eeeeee ∷ 0xee443322 ∷ []) (8 ∷ 7 ∷ []) 1 gives packets (0x44332211 ∷ [])
    ∷ sink 4 (0x44332211 ∷ []) 1 1 gives words (0x44332211 ∷ []) (15 ∷ [])
    -- A7 no packets need no room and make nothing; words lent for them are refused with 12
    ∷ sink 1 [] 0 0 gives words [] []
    ∷ source 1 0 [] [] 0 gives packets []
    ∷ source 1 0 (0 ∷ []) (14 ∷ []) 0 gives refused 12
    -- A8 one strobe that is not the plan's: the first, one between, the last; above 15 it is refused with 12 too, and not with 2
    ∷ source 1 2 loose (15 ∷ 15 ∷ 1 ∷ []) 2 gives refused 12
    ∷ source 1 2 loose (14 ∷ 7 ∷ 1 ∷ []) 2 gives refused 12
    ∷ source 1 2 loose (14 ∷ 15 ∷ 3 ∷ []) 2 gives refused 12
    ∷ source 1 2 loose (14 ∷ 31 ∷ 1 ∷ []) 2 gives refused 12
    ∷ source 1 2 loose (14 ∷ 15 ∷ 17 ∷ []) 2 gives refused 12
    -- A9 a word too many or too few
    ∷ source 1 1 loose (14 ∷ 15 ∷ 1 ∷ []) 2 gives refused 12
    ∷ source 1 3 loose (14 ∷ 15 ∷ 1 ∷ []) 3 gives refused 12
    -- A10 1, 3, 7 and 12 in this order
    ∷ source 1 65536 loose (14 ∷ 15 ∷ []) 2 gives refused 1
    ∷ source 1 65536 loose (14 ∷ 15 ∷ 1 ∷ []) 2 gives refused 3
    ∷ source 1 2 loose (14 ∷ 0 ∷ 1 ∷ []) 1 gives refused 7
    ∷ source 1 2 loose (14 ∷ 0 ∷ 1 ∷ []) 2 gives refused 12
    -- A11 either buffer of a sink is asked for the plan's words, one more than there are packets
    ∷ sink 1 eight 2 3 gives refused 7
    ∷ sink 1 eight 3 2 gives refused 7
    ∷ []
