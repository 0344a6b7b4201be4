use Rattle.arrays.specs.Arrays.{level_count}
use Rattle.lanes.proofs.EvaluateLaws.{Evaluating}
use Rattle.lanes.proofs.levels.evaluate.Given as goal

abbrev pub invariant-loop-level : goal.invariant-loop-level
invariant-loop-level l =
    Evaluating level_count l.rules.rules.now.heads l.rules.rules.now.positive l.rules.rules.now.negated l.rules.starts.now l.initial.table.words l.table.words l.reached l.level
