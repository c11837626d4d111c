-- What the answer of `check_stream` means: the judgement by `means` of signals, for the stream's grounds and rules, and the clear cycles
-- by what the verdict says. Assumes nothing.
use lib.ListN.{length}
use Rattle.signals.specs.Stream.{sample_at}
use Rattle.signals.proofs.Written.{means}
use Rattle.stream_checker.specs.Rules.{rules}
use Rattle.stream_checker.specs.Verdicts.{grounds, handshake_at, check_stream}
use Rattle.stream_checker.specs.Meaning.{EveryAnswer}

pub every_answer_lem : EveryAnswer
unfolding check_stream
every_answer_lem controls words seq_on =
    let trace = sample_at controls words in
    let n = length controls in
    record {
      judges = means (grounds controls words) (rules seq_on trace) (handshake_at trace) n;
      clean_clears = λ e. rw e;
      broken_clears = λ rule c e. rw e;
      refused_clears = λ number e. rw e;
    }
