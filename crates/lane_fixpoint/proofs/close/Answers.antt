use native.Mathlib.Omega.{arith}
use Rattle.lane_fixpoint.proofs.CloseLaws.{closing_few, closing_first, closing_idle, closing_next, lanes_closed, stale_none, stale_to}
use Rattle.lane_fixpoint.proofs.StepLaws.{covers_same}
use Rattle.std.proofs.Common.{rules}
use Rattle.lane_fixpoint.proofs.close.Goals as goal

pub loop-progress-init : goal.loop-progress-init
loop-progress-init c =
    record {
      closing = closing_first _ _ _ _ _ _ _ c.requires.placed.ordered c.reduce.ensures;
      covers = covers_same _ _ _ c.reduce.ensures.same c.requires.covered;
      stale = stale_none _ _ _ _ _ _;
    }

pub overflow_add-passes : goal.overflow_add-passes
overflow_add-passes c = omega (arith, closing_few _ _ _ _ _ _ _ _ c.loop-progress.invariant.closing)

pub returns-then-progress-eq0-clause-count : goal.returns-then-progress-eq0-clause-count
returns-then-progress-eq0-clause-count c =
    let e = c.pass-progress.ensures in
    let low = c.requires.placed.ordered in
    let u = c.reduce.ensures in
    let closed = closing_idle _ _ _ _ _ _ _ _ _ _ c.loop-progress.invariant.closing e c.if-progress-eq0.true in
    lanes_closed _ _ _ _ _ _ _ low u _ _ closed

pub loop-progress-preserved : goal.loop-progress-preserved
loop-progress-preserved c =
    let e = c.pass-progress.ensures in
    record {
      closing = closing_next _ _ _ _ _ _ _ _ _ _ c.loop-progress.invariant.closing e (search rules);
      covers = e.covers;
      stale = stale_to _ _ _ _ _ _ _ c.requires.placed.ordered e.stale;
    }

pub loop-progress-smaller : goal.loop-progress-smaller
loop-progress-smaller c = omega (arith, closing_few _ _ _ _ _ _ _ _ (loop-progress-preserved c).closing)
