use Rattle.arrays.specs.Arrays.{level_count}
use Rattle.relevance.proofs.StartLaws.{Moving}
use Rattle.relevance.proofs.compaction.kept_starts.Given as goal

abbrev pub invariant-loop-l : goal.invariant-loop-l
invariant-loop-l l = Moving level_count l.set.bits l.rules.rules.now.heads l.rules.starts.now l.moved l.from l.place l.l
