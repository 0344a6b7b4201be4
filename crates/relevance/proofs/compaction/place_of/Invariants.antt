use mathlib.Core.Path.{◌≡◌}
use Rattle.relevance.specs.Places.{room_before}
use Rattle.relevance.proofs.compaction.place_of.Given as goal

abbrev pub invariant-loop-k : goal.invariant-loop-k
invariant-loop-k l = l.next ≡ room_before l.set.bits l.heads l.k
