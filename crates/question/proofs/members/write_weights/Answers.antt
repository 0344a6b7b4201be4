use Rattle.question.proofs.MemberLaws.{none_left}
use Rattle.question.proofs.WeightLaws.{weighing_all, weighing_more}
use native.Mathlib.Omega.{arith}
use Rattle.question.proofs.members.write_weights.Goals as goal

pub loop-k-preserved : goal.loop-k-preserved
loop-k-preserved c = rw c.from-next.ensures (weighing_more _ _ _ _ _ _ c.loop-k.invariant c.loop-k-test.true)

pub returns-then-left-eq0 : goal.returns-then-left-eq0
returns-then-left-eq0 c = weighing_all _ _ _ _ _ _ c.loop-k.invariant c.ranges.set.fits c.if-left-eq0.true

pub returns : goal.returns
returns c = weighing_all _ _ _ _ _ _ c.loop-k.invariant c.ranges.set.fits (none_left _ _ (omega arith) c.loop-k.invariant.above)
