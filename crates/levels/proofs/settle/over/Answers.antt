-- `levels::settle::over` meets its contract: the levels that it has come down from have no atom of the set. Assumes nothing.
use Rattle.levels.proofs.MemberLaws.{over_next}
use Rattle.std.proofs.Common.{rules}
use Rattle.levels.proofs.settle.over.Goals as goal

pub loop-level-preserved : goal.loop-level-preserved
loop-level-preserved c = over_next _ _ _ _ c.loop-level.invariant c.loop-level-test.true (search rules)
