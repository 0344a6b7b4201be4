use Rattle.lane_fixpoint.proofs.ReduceLaws.{reducing_next}
use Rattle.lane_fixpoint.proofs.reduce.Goals as goal

pub loop-k-preserved : goal.loop-k-preserved
loop-k-preserved c =
    let hit = c.having_any-hit.ensures in
    reducing_next _ _ _ _ _ _ _ _ c.loop-k.k c.requires.covered c.loop-k.invariant hit c.complement.ensures c.store.ensures
