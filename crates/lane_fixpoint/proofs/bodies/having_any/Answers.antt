use native.Mathlib.Omega.{arith}
use Rattle.atoms.proofs.ListedLaws.{first_low}
use Rattle.lane_fixpoint.proofs.BodyLaws.{hit_first, hit_next}
use Rattle.lane_fixpoint.proofs.bodies.having_any.Goals as goal

pub loop-k-init : goal.loop-k-init
loop-k-init c = hit_first _ c.args.atoms.bits c.into_iter-k-iterator.result.left _ (omega arith) (cc) c.splat-hit.ensures

pub loop-k-preserved : goal.loop-k-preserved
loop-k-preserved c =
    let first = c.in-Some.ensures.steps in
    hit_next _ _ _ _ _ _ first (first_low _ _ _ first) c.load.ensures _ _ c.union-hit.ensures c.loop-k.invariant
