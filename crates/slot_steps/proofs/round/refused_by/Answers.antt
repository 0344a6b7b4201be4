-- `slot_steps::round::refused_by` meets its contract: by the two answers of the policy's test. Assumes nothing.
use Rattle.std.proofs.Common.{sym}
use Rattle.std.proofs.lemmas.Result.{err_from_is_err_and}
use Rattle.encoding.proofs.ByteLaws.{slice_bytes}
use Rattle.slot_steps.specs.Types.{refusal_of}
use Rattle.slot_steps.proofs.StepLaws.{policy_first}
use Rattle.slot_steps.proofs.round.refused_by.Goals as goal

pub returns-in_err-check : goal.returns-in_err-check
returns-in_err-check c =
    let a = c.args in
    let p = err_from_is_err_and c.from_residual.result c.from_residual.ensures.1 in (
      rw (p.1, p.2) (policy_first a.policy.now _ (refusal_of a.refusal) (sym c.in_err-check.ensures.answer)),
      slice_bytes a.policy.now c.type_inv.policy,
    )

pub returns : goal.returns
returns c =
    let a = c.args in
    (policy_first a.policy.now _ (refusal_of a.refusal) (sym c.in_ok-check.ensures.answer), slice_bytes a.policy.now c.type_inv.policy)
