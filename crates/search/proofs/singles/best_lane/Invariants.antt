use Rattle.search.specs.Candidates.{passes}
use Rattle.search.specs.Singles.{BestLane}
use Rattle.search.proofs.singles.best_lane.Given as goal

abbrev pub invariant-loop-k : goal.invariant-loop-k
invariant-loop-k l = BestLane (passes l.search) l.low l.k l.best
