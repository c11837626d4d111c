-- The loop of `any_reserved`: what was found so far and the cycles that are left answer together for the whole trace.
use Rattle.std.proofs.Common.{◌≡◌, ◌||◌, drop}
use Rattle.signals.specs.Refusals.{any_of}
use Rattle.signals.specs.Stream.{reserved_bit}
use Rattle.signals.proofs.stream.any_reserved.Given as goal

abbrev pub invariant-loop-control : goal.invariant-loop-control
invariant-loop-control l =
    l.any || any_of reserved_bit (drop l.control-index l.controls) ≡ any_of reserved_bit l.controls
