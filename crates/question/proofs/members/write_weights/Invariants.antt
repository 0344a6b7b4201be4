use Rattle.preference.specs.Weights.{weight_at}
use Rattle.question.proofs.WeightLaws.{Weighing}
use Rattle.question.proofs.members.write_weights.Given as goal

abbrev pub invariant-loop-k : goal.invariant-loop-k
invariant-loop-k l = Weighing (weight_at l.weights) l.set l.listed l.left l.k l.next
