use Prim.Native.Nat.{◌-◌}
use Rattle.ranking.proofs.PlaceLaws.{Between}
use Rattle.ranking.proofs.place.bar.Given as goal

abbrev pub invariant-loop-from : goal.invariant-loop-from
invariant-loop-from l = Between l.tables.low.now l.tables.lanes l.tables.high.now l.tables.blocks l.limit l.from l.to

abbrev pub decreases-loop-from : goal.decreases-loop-from
decreases-loop-from l = l.to - l.from
