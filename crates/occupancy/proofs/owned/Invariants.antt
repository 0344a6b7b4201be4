-- What is counted so far.
use Rattle.std.proofs.Common.{◌≡◌}
use Rattle.slots.specs.Slots.{unfinished}
use Rattle.occupancy.specs.Types.{table_of}
use Rattle.occupancy.proofs.owned.Given as goal

abbrev pub invariant-loop-slot : goal.invariant-loop-slot
invariant-loop-slot l = l.count ≡ unfinished l.owner (table_of l.slot-items) l.slot-index
