-- `levels::rows::Rows::test` meets its contract: the heads that it has come to say the rest. Assumes nothing.
use Rattle.levels.proofs.MemberLaws.{Testing}
use Rattle.levels.proofs.rows.Rows.test.Given as goal

abbrev pub invariant-loop-h : goal.invariant-loop-h
invariant-loop-h l = Testing l.self.negated l.layers.of l.layers.at l.yielded
