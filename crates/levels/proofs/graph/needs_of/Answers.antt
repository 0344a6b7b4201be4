-- `levels::graph::needs_of` meets its contract: the atoms that it has come to say the rest. Assumes nothing.
use mathlib.Core.Path.{subst, sym}
use native.Mathlib.Omega.{arith}
use Rattle.atoms.proofs.LoopLaws.{all_members}
use Rattle.levels.proofs.MemberLaws.{Needing, needing_done, needing_next}
use Rattle.levels.proofs.graph.needs_of.Goals as goal

pub loop-h-preserved : goal.loop-h-preserved
loop-h-preserved c = subst (Needing _ _) (sym c.union-needs.ensures) (needing_next _ _ _ c.loop-h.invariant c.in-Some.h)

pub returns : goal.returns
returns c =
    needing_done _ _ _ c.loop-h.invariant c.args.set.bits
    (all_members c.args.set.bits c.into_iter-h-iterator.result (cc) c.loop-h.yielded _ c.loop-h.yielded_by (omega arith) _ _ c.in-None.is c.next.ensures.steps)
