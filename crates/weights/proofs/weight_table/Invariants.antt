-- `weights::weight_table` meets its contract. The loop's invariant: the table has what the records from record k on give. Assumes nothing.
use Rattle.weights.proofs.TableLaws.{Reading}
use Rattle.weights.proofs.weight_table.Given as goal

abbrev pub invariant-loop-k : goal.invariant-loop-k
invariant-loop-k l = Reading l.policy l.k l.weights
