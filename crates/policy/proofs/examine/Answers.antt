-- `policy::examine` meets its contract: where all records pass and levels are found, the policy is accepted with them. Assumes nothing.
use Rattle.std.proofs.Common.{arith, rules}
use Rattle.encoding.proofs.ByteLaws.{slice_bytes}
use Rattle.policy.proofs.LoopLaws.{access_heads}
use Rattle.policy.proofs.WholeLaws.{accepted_with, levels_some}
use Rattle.policy.proofs.examine.Goals as goal

pub find_levels-requires : goal.find_levels-requires
find_levels-requires c = access_heads c.args.policy.now c.in_ok-check_records.ensures

pub returns-clause-answer : goal.returns-clause-answer
returns-clause-answer c =
    let bytes = c.args.policy.now in
    levels_some bytes (slice_bytes bytes c.type_inv.policy) (omega arith) (search rules) c.in_ok-check_records.ensures c.in-Some.levels c.in-Some.ensures

pub returns-clause-levels : goal.returns-clause-levels
returns-clause-levels c =
    let bytes = c.args.policy.now in
    accepted_with bytes (slice_bytes bytes c.type_inv.policy) (omega arith) (search rules) c.in_ok-check_records.ensures c.in-Some.levels c.in-Some.ensures
