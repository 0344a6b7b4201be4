use native.Mathlib.Omega.{arith}
use Rattle.lane_fixpoint.proofs.PassLaws.{passing_done, passing_first, passing_next}
use Rattle.lane_fixpoint.proofs.passes.pass.Goals as goal

pub loop-k-init : goal.loop-k-init
loop-k-init c = passing_first _ _ _ _ _ _ _ _ c.requires.covered.0 c.requires.covered.1

pub loop-k-preserved : goal.loop-k-preserved
loop-k-preserved c =
    let l = c.loop-k in
    let one = c.requires.placed.singles l.k (omega arith) in
    passing_next _ _ _ _ _ _ _ _ _ _ _ l.k (omega arith) (omega arith) one l.invariant c.step-progress.ensures

pub returns : goal.returns
returns c = passing_done _ _ _ _ _ _ _ _ _ c.loop-k.k (omega arith) c.loop-k.invariant
