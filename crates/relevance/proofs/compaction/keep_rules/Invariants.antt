use Rattle.arrays.specs.Arrays.{level_count}
use Rattle.relevance.proofs.CompactionLaws.{Compacting}
use Rattle.relevance.proofs.compaction.keep_rules.Given as goal

abbrev pub invariant-loop-k : goal.invariant-loop-k
invariant-loop-k l =
    Compacting level_count l.set.bits l.rules.rules.now.heads l.rules.rules.now.positive l.rules.rules.now.negated l.rules.starts.now
    l.kept.heads l.kept.positive l.kept.negated l.starts l.place l.k
