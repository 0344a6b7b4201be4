-- `layout::listed::list` meets its contract. The loop's invariant: the rules in the arrays and those of the records that are left are all of
-- the policy's. Assumes nothing.
use Rattle.layout.proofs.ListedLaws.{Reading}
use Rattle.layout.proofs.listed.list.Given as goal

abbrev pub invariant-loop-k : goal.invariant-loop-k
invariant-loop-k l = Reading l.policy l.kind l.k l.rules.heads l.rules.positive l.rules.negated l.count
