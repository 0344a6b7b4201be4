use Rattle.question.proofs.MemberLaws.{Listed}
use Rattle.question.proofs.members.write_members.Given as goal

abbrev pub invariant-loop-k : goal.invariant-loop-k
invariant-loop-k l = Listed l.set l.members l.left l.n l.k
