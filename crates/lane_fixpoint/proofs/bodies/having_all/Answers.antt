use native.Mathlib.Omega.{arith}
use Rattle.atoms.proofs.ListedLaws.{first_low}
use Rattle.lane_fixpoint.proofs.BodyLaws.{held_first, held_next}
use Rattle.lane_fixpoint.proofs.bodies.having_all.Goals as goal

pub loop-k-init : goal.loop-k-init
loop-k-init c = held_first _ c.args.atoms.bits _ c.into_iter-k-iterator.result.left (omega arith) (cc)

pub loop-k-preserved : goal.loop-k-preserved
loop-k-preserved c =
    let first = c.in-Some.ensures.steps in
    held_next _ _ _ _ _ _ first (first_low _ _ _ first) c.load.ensures _ _ _ c.intersection-held.ensures c.loop-k.invariant
