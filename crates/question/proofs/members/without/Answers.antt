-- What two sets share is no larger than one of them.
use lib.Bits.{and_le_l}
use Rattle.question.proofs.members.without.Goals as goal

pub overflow_sub-result : goal.overflow_sub-result
overflow_sub-result c = and_le_l c.args.set c.args.other
