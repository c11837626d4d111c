-- What source and sink are to each other, for every address and every number of packets that a plan may have. Assumes nothing.
use Rattle.std.specs.Prelude.{ℕ, ◌+◌, ◌*◌, ◌^◌, ◌<◌, ◌≤◌, cond, ◌&&◌, List, ◌≡◌, leb, ltb, length, get_or}
use Rattle.std.proofs.Math.Option.{none}
use Rattle.signals.specs.Sequences.{entries_below}
use Rattle.strbgen.specs.Plan.{word_count}
use Rattle.realign.specs.Bytes.{word_of, byte_at}
use Rattle.realign.specs.Source.{named, source}
use Rattle.realign.specs.Sink.{strobes_of, sink}

-- words of 32 bits, as every lent buffer of words holds
abbrev pub Fit : (words : List ℕ) → Type 0
Fit words = (i : ℕ) → get_or words i 0 < 2 ^ 32

-- words with their null bytes zeroed
abbrev pub nulled : (words strobes : List ℕ) → List ℕ
nulled words strobes =
    entries_below (λ i. word_of (λ j. cond (named strobes (4 * i + j)) (byte_at words (4 * i + j)) 0)) (length words)

-- a sink's strobes name the bytes that are not padding
abbrev pub StrobesNamePackets : Type 0
StrobesNamePackets =
    (m : ℕ) (packets : List ℕ) (k : ℕ) → m < 4 → k < 4 * word_count m (length packets) →
    named (strobes_of m packets) k ≡ (leb m k && ltb k (m + 4 * length packets))

-- source takes what a sink made, and gives back the packets themselves
abbrev pub SourceAfterSink : Type 0
SourceAfterSink =
    (address : ℕ) (packets : List ℕ) (wordRoom strobeRoom room : ℕ) → Fit packets →
    let made = sink address packets wordRoom strobeRoom in
    made.refusal ≡ none → length packets ≤ room →
    source address (length packets) made.words made.strobes room ≡ record { refusal = none; packets = packets }

-- sink takes what a source gave, and makes the words with their null bytes zeroed, and the strobes as given
abbrev pub SinkAfterSource : Type 0
SinkAfterSource =
    (address n : ℕ) (words strobes : List ℕ) (room wordRoom strobeRoom : ℕ) →
    let given = source address n words strobes room in
    given.refusal ≡ none → length words ≤ wordRoom → length words ≤ strobeRoom →
    sink address given.packets wordRoom strobeRoom ≡ record { refusal = none; words = nulled words strobes; strobes = strobes }
