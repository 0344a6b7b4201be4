use mathlib.Core.Path.{refl}
use Rattle.question.proofs.MemberLaws.{listed_all, listed_more, listed_none, none_left}
use native.Mathlib.Omega.{arith}
use Rattle.question.proofs.members.write_members.Goals as goal

pub loop-k-init : goal.loop-k-init
loop-k-init c = listed_none c.args.set _ c.ranges.set.fits c.requires

pub loop-k-preserved : goal.loop-k-preserved
loop-k-preserved c = listed_more _ _ _ _ _ c.loop-k.invariant _ _ c.loop-k-test.true refl c.from-n.ensures

pub returns-then-left-eq0 : goal.returns-then-left-eq0
returns-then-left-eq0 c = listed_all _ _ _ _ _ c.loop-k.invariant c.ranges.set.fits c.if-left-eq0.true

pub returns : goal.returns
returns c = listed_all _ _ _ _ _ c.loop-k.invariant c.ranges.set.fits (none_left _ _ (omega arith) c.loop-k.invariant.above)
