-- `levels::settle::over` meets its contract: the levels that it has come down from have no atom of the set. Assumes nothing.
use Rattle.levels.specs.Walks.{Over}
use Rattle.levels.proofs.settle.over.Given as goal

abbrev pub invariant-loop-level : goal.invariant-loop-level
invariant-loop-level l = Over l.at l.count l.set.bits l.level
