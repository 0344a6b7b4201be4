use Rattle.ranking.proofs.PlaceLaws.{zero_below}
use native.Mathlib.Omega.{arith}
use Rattle.ranking.proofs.place.lanes_below.Goals as goal

pub returns-then-left-eq0 : goal.returns-then-left-eq0
returns-then-left-eq0 c = (zero_below _ _ _ c.if-left-eq0.true, omega arith)
