-- `levels::rows::Rows::test` meets its contract: the heads that it has come to say the rest. Assumes nothing.
use native.Mathlib.Omega.{arith}
use Rattle.std.proofs.Common.{rules}
use Rattle.atoms.proofs.LoopLaws.{all_members}
use Rattle.levels.proofs.MemberLaws.{testing_done, testing_next}
use Rattle.levels.proofs.rows.Rows.test.Goals as goal

pub loop-h-preserved : goal.loop-h-preserved
loop-h-preserved c = testing_next c.args.self.now.negated c.args.layers.now.of c.args.layers.now.at c.loop-h.yielded c.loop-h.invariant c.in-Some.h (search rules)

pub returns : goal.returns
returns c =
    testing_done c.args.self.now.negated c.args.layers.now.of c.args.layers.now.at c.loop-h.yielded c.loop-h.invariant c.args.self.now.heads.bits
    (all_members c.args.self.now.heads.bits c.into_iter-h-iterator.result (cc) c.loop-h.yielded _ c.loop-h.yielded_by (omega arith) _ _ c.in-None.is c.next.ensures.steps)
