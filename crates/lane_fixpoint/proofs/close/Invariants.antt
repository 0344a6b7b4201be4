use Prim.Native.Nat.{◌-◌}
use Rattle.lane_fixpoint.proofs.CloseLaws.{Progressing}
use Rattle.lane_fixpoint.proofs.close.Given as goal

abbrev pub invariant-loop-progress : goal.invariant-loop-progress
invariant-loop-progress l =
    Progressing l.rules.heads l.rules.positive l.rules.negated l.from (l.to - l.from) l.to l.initial.table.words l.table.words l.progress l.initial' l.passes

abbrev pub decreases-loop-progress : goal.decreases-loop-progress
decreases-loop-progress l = 64 - l.passes
