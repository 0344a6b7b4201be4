use mathlib.Core.Path.{sym}
use Rattle.ranking.proofs.PlaceLaws.{more_in, none_in}
use native.Mathlib.Omega.{arith}
use Rattle.ranking.proofs.place.place.Goals as goal

pub loop-b-init : goal.loop-b-init
loop-b-init c = (sym (none_in _ _ _ _), omega arith)

pub loop-b-preserved : goal.loop-b-preserved
loop-b-preserved c = (
  more_in _ _ _ _ _ _ _ _ c.loop-b.invariant.0 (rw c.from.ensures at c.saturating_sub-left.ensures) c.lanes_below-count.ensures.0,
  omega (arith, c.lanes_below-count.ensures.1),
)
