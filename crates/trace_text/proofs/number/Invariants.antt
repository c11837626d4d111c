-- `trace_text::number` meets its contract. The invariant: the digits from here on answer for all, and there is room for them.
-- Assumes nothing.
use Rattle.std.proofs.Common.{◌≡◌, ◌+◌, ◌*◌, ◌^◌, ◌-◌, ◌≤◌, length, drop}
use Rattle.trace_text.specs.Parts.{number_of}
use Rattle.trace_text.proofs.number.Given as goal

abbrev pub invariant-loop-byte : goal.invariant-loop-byte
invariant-loop-byte l =
    (number_of l.base 0 l.digits ≡ number_of l.base l.value (drop l.byte-index l.digits))
    × ((l.value + 1) * l.base ^ (length l.digits - l.byte-index) ≤ l.base ^ length l.digits)
