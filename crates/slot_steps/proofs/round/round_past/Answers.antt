-- `slot_steps::round::round_past` meets its contract: the policy's test, then 14. Assumes nothing.
use Rattle.slot_steps.specs.Types.{answer_of}
use Rattle.slot_steps.proofs.StepLaws.{by_number}
use Rattle.slot_steps.proofs.round.round_past.Goals as goal

pub returns : goal.returns
returns c =
    let a = c.args in
    (by_number a.policy.now 14 (answer_of c.refused_by.result) c.refused_by.ensures.0, c.refused_by.ensures.1)
