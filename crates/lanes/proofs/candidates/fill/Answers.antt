use native.Mathlib.Omega.{arith}
use Rattle.atoms.proofs.ListedLaws.{first_low}
use Rattle.lanes.proofs.FillLaws.{filling_done, filling_first, filling_next}
use Rattle.lanes.proofs.candidates.fill.Goals as goal

pub loop-k-init : goal.loop-k-init
loop-k-init c = filling_first c.args.base c.into_iter-k-iterator.result.left _ (omega arith) (cc) c.requires

pub loop-k-preserved : goal.loop-k-preserved
loop-k-preserved c =
    let first = c.in-Some.ensures.steps in
    filling_next _ _ _ _ _ _ _ first (first_low _ _ _ first) c.loop-k.invariant c.splat.ensures c.store.ensures

pub returns : goal.returns
returns c = filling_done _ _ _ c.loop-k.invariant c.in-None.ensures.steps.0
