-- The loop of `fill`: what was read lies at the front of the room, whose length stays. Each turn reads a byte at least.
use Rattle.std.proofs.Common.{◌-◌, ◌≡◌, ◌≤◌, length, take}
use Rattle.std.specs.Io.KnownBytes.{Consumes}
use Rattle.vectors.proofs.fill.Given as goal

abbrev pub invariant-pieces : goal.invariant-pieces
invariant-pieces g l =
    (l.filled ≤ length l.room) × (length l.room ≡ length l.fn.room)
    × Consumes (g.R.Read.remaining l.fn.reader) (g.R.Read.remaining l.reader) (take l.filled l.room)

abbrev pub decreases-pieces : goal.decreases-pieces
decreases-pieces g l = length l.room - l.filled
