-- The buffer holds the addresses of the iterations so far, and behind them what it held. Assumes nothing.
use Rattle.std.proofs.Common.{◌≡◌, ◌++◌, drop}
use Rattle.signals.specs.Sequences.{entries_below}
use Rattle.address_at.specs.ByNumber.{address_of}
use Rattle.address_at.proofs.legal.Legal.write_all.Given as goal

abbrev pub invariant-loop-i : goal.invariant-loop-i
invariant-loop-i l = l.out ≡ entries_below (address_of l.self.settings) l.i ++ drop l.i l.initial.out
