use Rattle.lane_fixpoint.proofs.ReduceLaws.{Reducing}
use Rattle.lane_fixpoint.proofs.reduce.Given as goal

abbrev pub invariant-loop-k : goal.invariant-loop-k
invariant-loop-k l = Reducing l.rules.negated l.from l.initial.table.words l.table.words l.k
