use mathlib.Core.Path.{◌≡◌}
use Rattle.slot_packing.specs.Calls.{unfinished_in}
use Rattle.table_wire.proofs.count.owned.Given as goal

abbrev pub invariant-loop-k : goal.invariant-loop-k
invariant-loop-k l = l.count ≡ unfinished_in l.owner l.table l.k
