use Rattle.lane_fixpoint.proofs.FireLaws.{fired}
use Rattle.lane_fixpoint.proofs.passes.fire.Goals as goal

pub returns : goal.returns
returns c =
    fired _ _ _ _ _ _ _ _ _ _ _ _ c.requires.1 c.load.ensures c.having_all-body.ensures c.load-old.ensures
    c.union.ensures c.store.ensures c.complement.ensures
    c.intersection.ensures c.is_empty.ensures
