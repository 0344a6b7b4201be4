-- `levels::settle::mark` meets its contract: the members that it has come to say the rest. Assumes nothing.
use native.Mathlib.Omega.{arith}
use Rattle.atoms.proofs.ListedLaws.{first_low}
use Rattle.atoms.proofs.LoopLaws.{all_members}
use Rattle.levels.proofs.MemberLaws.{marking_done, marking_next}
use Rattle.levels.proofs.settle.mark.Goals as goal

pub loop-k-preserved : goal.loop-k-preserved
loop-k-preserved c = marking_next _ _ _ _ c.loop-k.invariant c.in-Some.k (first_low _ _ _ c.in-Some.ensures.steps)

pub returns : goal.returns
returns c =
    marking_done _ _ _ _ c.loop-k.invariant c.args.members.bits
    (all_members c.args.members.bits c.into_iter-k-iterator.result (cc) c.loop-k.yielded _ c.loop-k.yielded_by (omega arith) _ _ c.in-None.is c.next.ensures.steps)
