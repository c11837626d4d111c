-- The answers of the checkers in numbers. Assumes nothing.
use Rattle.stream_checker.specs.Verdicts as ofStream
use Rattle.mem_checker.specs.Verdicts as ofMem
use Rattle.exports.specs.declared.checkers.StreamVerdict.{StreamVerdict}
use Rattle.exports.specs.declared.checkers.MemVerdict.{MemVerdict}
use Rattle.exports.specs.Numbers.{InFour, in_four}

-- one for each checker, whose answers and whose structs for C are of two types: `clears` in these, `open` in those
abbrev pub stream_numbers : ofStream.Answer → StreamVerdict
stream_numbers a =
    let v : InFour = in_four a.judgement.verdict in
    record {
      refusal = v.refusal;
      verdict = v.verdict;
      rule = v.rule;
      cycle = v.cycle;
      handshakes = a.judgement.handshakes;
      clears = a.clears;
    }

abbrev pub mem_numbers : ofMem.Answer → MemVerdict
mem_numbers a =
    let v : InFour = in_four a.judgement.verdict in
    record {
      refusal = v.refusal;
      verdict = v.verdict;
      rule = v.rule;
      cycle = v.cycle;
      handshakes = a.judgement.handshakes;
      «open» = a.«open»;
    }
