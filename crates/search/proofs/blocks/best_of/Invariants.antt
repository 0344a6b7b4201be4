use Prim.Native.Nat.{◌-◌, ◌≤◌}
use Rattle.ranking.specs.Keys.{never}
use Rattle.search.specs.Blocks.{Best}
use Rattle.search.specs.Candidates.{passes}
use Rattle.search.proofs.blocks.best_of.Given as goal

abbrev pub invariant-loop-high : goal.invariant-loop-high
invariant-loop-high l = (l.from ≤ never) × Best (passes l.search) l.tables.keys.low.now l.tables.keys.lanes l.tables.keys.high.now l.tables.keys.blocks l.from l.best

abbrev pub decreases-loop-high : goal.decreases-loop-high
decreases-loop-high l = never - l.from
