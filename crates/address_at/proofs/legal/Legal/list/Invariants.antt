-- The buffer holds the numbers that were listed so far, and behind them what it held. Assumes nothing.
use Rattle.std.proofs.Common.{◌≡◌, ◌++◌, length, drop}
use Rattle.address_at.specs.ByNumber.{address_of}
use Rattle.address_at.specs.Overlap.{met_below}
use Rattle.address_at.proofs.legal.Legal.list.Given as goal

abbrev pub invariant-loop-i : goal.invariant-loop-i
invariant-loop-i l =
    (l.count ≡ length (met_below (address_of l.self.settings) l.others l.i))
    × (l.out ≡ met_below (address_of l.self.settings) l.others l.i ++ drop l.count l.initial.out)
