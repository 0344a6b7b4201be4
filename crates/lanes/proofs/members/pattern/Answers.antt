use native.Mathlib.Omega.{arith}
use Rattle.lanes.proofs.MemberLaws.{pattern_0, pattern_1, pattern_2, pattern_3, pattern_4, pattern_5}
use Rattle.lanes.proofs.members.pattern.Goals as goal

pub returns-in-0 : goal.returns-in-0
returns-in-0 c = pattern_0 _ (omega arith)

pub returns-in-1 : goal.returns-in-1
returns-in-1 c = pattern_1 _ (omega arith)

pub returns-in-2 : goal.returns-in-2
returns-in-2 c = pattern_2 _ (omega arith)

pub returns-in-3 : goal.returns-in-3
returns-in-3 c = pattern_3 _ (omega arith)

pub returns-in-4 : goal.returns-in-4
returns-in-4 c = pattern_4 _ (omega arith)

pub returns-in_default : goal.returns-in_default
returns-in_default c = pattern_5 _ (omega arith)
