-- `levels::settle::mark` meets its contract: the members that it has come to say the rest. Assumes nothing.
use Rattle.levels.proofs.MemberLaws.{Marking}
use Rattle.levels.proofs.settle.mark.Given as goal

abbrev pub invariant-loop-k : goal.invariant-loop-k
invariant-loop-k l = Marking l.initial.of l.level l.yielded l.of
