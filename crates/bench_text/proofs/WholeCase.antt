-- Document 01's whole case, texts that are refused with 9 and with 3, and texts with clear cycles, by computation. Assumes nothing.
use mathlib.Core.Path.{◌≡◌, refl}
use Rattle.stream_checker.specs.Verdicts.{check_stream}
use Rattle.trace_text.specs.Digits.{bytes, decimal}
use Rattle.trace_text.specs.Form.{reading}
use Rattle.bench_text.specs.Report.{report_of}

pub whole_case : report_of (bytes "kind=stream\nseq=off\ncycles=5\nc=0200000000\nc=f100000011\nc=f300000011\nc=f100000012\nc=f300000013\n")
    ≡ bytes "kind=stream\ncycles=5\nverdict=broken\nrule=2\nat=4\nhandshakes=1\nclears=0\n"
unfolding report_of reading check_stream decimal
whole_case = refl

pub upper_case_is_refused : report_of (bytes "kind=stream\nseq=off\ncycles=1\nc=F200000000\n") ≡ bytes "kind=none\ncycles=0\nverdict=refused\nrule=9\nat=0\nhandshakes=0\nclears=0\n"
unfolding report_of reading check_stream decimal
upper_case_is_refused = refl

pub too_many_is_three : report_of (bytes "kind=stream\nseq=off\ncycles=4097\nc=F200000000\n") ≡ bytes "kind=none\ncycles=0\nverdict=refused\nrule=3\nat=0\nhandshakes=0\nclears=0\n"
unfolding report_of reading check_stream decimal
too_many_is_three = refl

-- a stall, a clear cycle with valid and ready 1 and another word, and valid 0: no handshake, and no duty is left
pub clear_ends_a_stall :
    report_of (bytes "kind=stream\nseq=off\ncycles=3\nc=f100000011\nc=f700000012\nc=f000000000\n")
    ≡ bytes "kind=stream\ncycles=3\nverdict=clean\nrule=0\nat=0\nhandshakes=0\nclears=1\n"
unfolding report_of reading check_stream decimal
clear_ends_a_stall = refl

-- bit 3 is reserved in a clear cycle too
pub reserved_is_refused_in_a_clear :
    report_of (bytes "kind=stream\nseq=off\ncycles=2\nc=0400000000\nc=0c00000000\n")
    ≡ bytes "kind=none\ncycles=0\nverdict=refused\nrule=2\nat=0\nhandshakes=0\nclears=0\n"
unfolding report_of reading check_stream decimal
reserved_is_refused_in_a_clear = refl

-- counters 7, a clear, 9, which is free, and 11, which does not follow it
pub clear_frees_the_next_counter :
    report_of (bytes "kind=stream\nseq=on\ncycles=4\nc=f300000007\nc=0400000000\nc=f300000009\nc=f30000000b\n")
    ≡ bytes "kind=stream\ncycles=4\nverdict=broken\nrule=seq\nat=3\nhandshakes=2\nclears=1\n"
unfolding report_of reading check_stream decimal
clear_frees_the_next_counter = refl
