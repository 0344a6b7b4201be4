use Rattle.lane_fixpoint.proofs.PassLaws.{Passing}
use Rattle.lane_fixpoint.proofs.passes.pass.Given as goal

abbrev pub invariant-loop-k : goal.invariant-loop-k
invariant-loop-k l =
    Passing l.rules.heads l.rules.positive l.from l.to l.before.added l.initial' l.initial.table.words l.table.words l.progress l.k
