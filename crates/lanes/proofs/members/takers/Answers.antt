use native.Mathlib.Omega.{arith}
use Rattle.lanes.proofs.MemberLaws.{takers_6, takers_7, takers_in, takers_low, takers_out}
use Rattle.lanes.proofs.members.takers.Goals as goal

pub returns-then-j-lt6 : goal.returns-then-j-lt6
returns-then-j-lt6 c = takers_low _ _ _ _ c.if-j-lt6.true c.pattern.ensures c.splat.ensures

pub returns-then-j-eq6 : goal.returns-then-j-eq6
returns-then-j-eq6 c = takers_6 _ _ c.if-j-eq6.true

pub returns-then-j-eq7 : goal.returns-then-j-eq7
returns-then-j-eq7 c = takers_7 _ _ c.if-j-eq7.true

pub returns-then-b-j-eq1 : goal.returns-then-b-j-eq1
returns-then-b-j-eq1 c = takers_in _ _ (omega arith) c.if-b-j-eq1.true _ c.splat-then-b-j-eq1.ensures

pub returns-else-b-j-eq1 : goal.returns-else-b-j-eq1
returns-else-b-j-eq1 c = takers_out _ _ (omega arith) c.if-b-j-eq1.false _ c.splat-else-b-j-eq1.ensures
