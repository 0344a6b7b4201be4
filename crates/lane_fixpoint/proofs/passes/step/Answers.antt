use lib.Bits.{bit_and, bit_or}
use native.Mathlib.Omega.{arith}
use Rattle.lane_table.proofs.BitLaws.{or_left, or_right}
use Rattle.lane_fixpoint.proofs.StepLaws.{fired_some, lacking_satisfied, passed_over}
use Rattle.lane_fixpoint.proofs.passes.step.Goals as goal

pub returns-then-positive-possible-ne0 : goal.returns-then-positive-possible-ne0
returns-then-positive-possible-ne0 c =
    passed_over _ _ _ _ _ c.requires.covered.0 (lacking_satisfied _ _ _ c.args.progress.possible _ (omega arith) c.requires.covered.0 c.if-positive-possible-ne0.true)

pub returns-then-positive-delta-eq0 : goal.returns-then-positive-delta-eq0
returns-then-positive-delta-eq0 c =
    let a = c.args in
    let read = bit_and a.positive (bit_or a.delta a.progress.added) in
    passed_over _ _ _ _ _ c.requires.covered.0 (c.requires.covered.1 (or_right read a.initial c.if-positive-delta-eq0.true) (or_left read a.initial c.if-positive-delta-eq0.true))

pub returns-then-fire : goal.returns-then-fire
returns-then-fire c = fired_some _ _ _ _ _ _ _ c.requires.covered.0 c.fire.ensures c.if-fire.true
