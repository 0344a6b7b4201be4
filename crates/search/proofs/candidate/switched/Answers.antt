use Rattle.search.proofs.SwitchLaws.{switched_more, switched_none}
use Rattle.search.proofs.candidate.switched.Goals as goal

pub loop-j-init : goal.loop-j-init
loop-j-init c = switched_none _ _ _

pub loop-j-preserved : goal.loop-j-preserved
loop-j-preserved c = switched_more _ _ _ _ _ _ c.loop-j.invariant c.flip-set.ensures
